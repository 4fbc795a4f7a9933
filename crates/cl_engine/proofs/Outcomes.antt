-- Outcomes of files that are open: there is one, two say the same, and one with a status of the command's own is that of
-- what the files hold.
use Rattle.std.proofs.Common.{◌≡◌, ℕ, ◌≤◌, inl, inr, Bool, true, false, List, [], ◌∷◌, Option, Some, None, Result, Ok, Err, refl, sym, ap, ◌∙◌, subst, arith, length}
use Rattle.std.specs.Prelude.{nat_lt, if◌then◌else◌}
use Rattle.cl_model.specs.{declared.{model.SystemModel.SystemModel, refusal.Refusal.Refusal}, AreNamed.AreNamed, Reading.model_of, Validity.{refusal_of, IsValid}}
use Rattle.cl_model.proofs.ReadModels.{read_named}
use Rattle.cl_engine.specs.{declared.{files.{Files.Files, TheConstants.FILE_LIMIT}, outcome.Outcome.Outcome, status.TheConstants.{WRITE_FAULT, NO_MEMORY}}, Content.{Content, Nothing, Bytes as Whole, Model, ModelAnd, Fits, MeansModel, MeansNone, Means}, Fetched.{Fetched, Unasked, Bytes}}
use Rattle.cl_engine.specs.{Fetched.{Fault, TooLong, EachFile, WasFetched, told_fetch}, Files.{File, model_file, second_file, files_named}, Language.IsOfContent, Outcome.{read_fault, long_file, model_refused, IsOfRefusal, ValidatesEither, ValidatesTo, ReadsEither, ReadsTo, OpensTo}}
use Rattle.cl_engine.specs.Outcome.{OpensSecond, OpensBoth, Opens}
use Rattle.cl_engine.specs.declared.files.Files.TheVariants as files
use Rattle.cl_engine.proofs.Openings.{valid_read, none_of_refused, none_of_unread}

-- the model of a file that was opened is valid, and its names are names
abbrev pub IsOpened : Content → Type 0
IsOpened Nothing = Unit {0}
IsOpened (Whole bytes) = Unit {0}
IsOpened (Model model) = IsValid model × AreNamed model
IsOpened (ModelAnd model text) = IsValid model × AreNamed model

good_model : (bytes : List ℕ) (model : SystemModel) → MeansModel bytes model → IsValid model × AreNamed model
good_model bytes model is = (valid_read bytes model is, read_named bytes model is.means)

abbrev pub SomeOutcome : (Outcome → Type 0) → Type 0
SomeOutcome P = (found : Outcome) × P found

-- ---- there is an outcome

module _ (refused : Refusal → Outcome → Type 0) (stops : (refusal : Refusal) → SomeOutcome (refused refusal))
    (next : SystemModel → Outcome → Type 0) (some : (model : SystemModel) → IsValid model × AreNamed model → SomeOutcome (next model)) where
  some_validated : (bytes : List ℕ) (model : SystemModel) (refusal : Option Refusal) → model_of bytes ≡ Ok model → refusal_of model ≡ refusal
      → SomeOutcome (ValidatesEither model refusal refused next)
  some_validated bytes model None means none = some model (good_model bytes model (record { means = means; unrefused = none }))
  some_validated bytes model (Some refusal) means is = stops refusal

  some_read : (bytes : List ℕ) (read : Result SystemModel Refusal) → model_of bytes ≡ read → SomeOutcome (ReadsEither read refused next)
  some_read bytes (Ok model) means = some_validated bytes model (refusal_of model) means refl
  some_read bytes (Err refusal) means = stops refusal

some_refusal : (refusal : Refusal) → SomeOutcome (IsOfRefusal refusal)
some_refusal refusal = (model_refused refusal, refl)

some_file : (place : ℕ) (fetch : Fetched) → WasFetched fetch → (next : List ℕ → Outcome → Type 0) → ((bytes : List ℕ) → SomeOutcome (next bytes)) → SomeOutcome (OpensTo place fetch next)
some_file place Unasked fetched next some = absurd fetched
some_file place Fault fetched next some = (read_fault place, refl)
some_file place TooLong fetched next some = (long_file place, refl)
some_file place (Bytes bytes) fetched next some = some bytes

module _ (gave : File → Fetched) (next : Content → Outcome → Type 0) where
  some_both : (limit : ℕ) → EachFile (model_file ∷ second_file limit ∷ []) (λ file. WasFetched (gave file)) → (refused : List ℕ → Refusal → Outcome → Type 0)
      → ((bytes : List ℕ) (refusal : Refusal) → SomeOutcome (refused bytes refusal))
      → ((model : SystemModel) (text : List ℕ) → IsValid model × AreNamed model → SomeOutcome (next (ModelAnd model text))) → SomeOutcome (OpensBoth limit gave refused next)
  some_both limit fetched refused stops some =
      some_file 1 (gave model_file) fetched.0 (λ bytes. ReadsEither (model_of bytes) (refused bytes) (OpensSecond limit gave next))
      (λ bytes. some_read (refused bytes) (stops bytes) (OpensSecond limit gave next)
      (λ model good. some_file 2 (gave (second_file limit)) fetched.1.0 (λ text. next (ModelAnd model text)) (λ text. some model text good))
      bytes (model_of bytes) refl)

  pub some_opens : (named : Files) → EachFile (files_named named) (λ file. WasFetched (gave file))
      → ((content : Content) → Fits named content → IsOpened content → SomeOutcome (next content)) → SomeOutcome (Opens named gave next)
  unfolding Fits
  some_opens files.Nothing fetched some = some Nothing tt tt
  some_opens files.Content fetched some = some_file 1 (gave model_file) fetched.0 (λ bytes. next (Whole bytes)) (λ bytes. some (Whole bytes) tt tt)
  some_opens files.Model fetched some =
      some_file 1 (gave model_file) fetched.0 (λ bytes. ReadsTo (model_of bytes) (λ model. next (Model model)))
      (λ bytes. some_read IsOfRefusal some_refusal (λ model. next (Model model)) (λ model good. some (Model model) tt good) bytes (model_of bytes) refl)
  some_opens (files.ModelAnd limit) fetched some = some_both limit fetched (λ bytes. IsOfRefusal) (λ bytes. some_refusal) (λ model text good. some (ModelAnd model text) tt good)
  some_opens (files.ContentAnd limit) fetched some =
      some_both limit fetched (λ bytes refusal. next (Whole bytes)) (λ bytes refusal. some (Whole bytes) tt tt) (λ model text good. some (ModelAnd model text) tt good)

-- ---- two outcomes say the same

module _ (Same : Outcome → Outcome → Type 0) (equal : (one other : Outcome) → one ≡ other → Same one other) (one other : Outcome) where
  module _ (refused : Refusal → Outcome → Type 0) (stop : (refusal : Refusal) → refused refusal one → refused refusal other → Same one other)
      (next : SystemModel → Outcome → Type 0) (same : (model : SystemModel) → IsValid model × AreNamed model → next model one → next model other → Same one other) where
    same_validated : (bytes : List ℕ) (model : SystemModel) (refusal : Option Refusal) → model_of bytes ≡ Ok model → refusal_of model ≡ refusal → ValidatesEither model refusal refused next one
        → ValidatesEither model refusal refused next other → Same one other
    same_validated bytes model None means none h k = same model (good_model bytes model (record { means = means; unrefused = none })) h k
    same_validated bytes model (Some refusal) means is h k = stop refusal h k

    same_read : (bytes : List ℕ) (read : Result SystemModel Refusal) → model_of bytes ≡ read → ReadsEither read refused next one → ReadsEither read refused next other → Same one other
    same_read bytes (Ok model) means h k = same_validated bytes model (refusal_of model) means refl h k
    same_read bytes (Err refusal) means h k = stop refusal h k

  same_refusal : (refusal : Refusal) → IsOfRefusal refusal one → IsOfRefusal refusal other → Same one other
  same_refusal refusal h k = equal one other (h ∙ sym k)

  same_file : (place : ℕ) (fetch : Fetched) (next : List ℕ → Outcome → Type 0) → ((bytes : List ℕ) → next bytes one → next bytes other → Same one other)
      → OpensTo place fetch next one → OpensTo place fetch next other → Same one other
  same_file place Unasked next same h k = absurd h
  same_file place Fault next same h k = equal one other (h ∙ sym k)
  same_file place TooLong next same h k = equal one other (h ∙ sym k)
  same_file place (Bytes bytes) next same h k = same bytes h k

  module _ (gave : File → Fetched) (next : Content → Outcome → Type 0) (same : (content : Content) → IsOpened content → next content one → next content other → Same one other) where
    same_both : (limit : ℕ) (refused : List ℕ → Refusal → Outcome → Type 0) → ((bytes : List ℕ) (refusal : Refusal) → refused bytes refusal one → refused bytes refusal other → Same one other)
        → OpensBoth limit gave refused next one → OpensBoth limit gave refused next other → Same one other
    same_both limit refused stop h k =
        same_file 1 (gave model_file) (λ bytes. ReadsEither (model_of bytes) (refused bytes) (OpensSecond limit gave next))
        (λ bytes. same_read (refused bytes) (stop bytes) (OpensSecond limit gave next)
        (λ model good. same_file 2 (gave (second_file limit)) (λ text. next (ModelAnd model text)) (λ text. same (ModelAnd model text) good))
        bytes (model_of bytes) refl) h k

    pub same_opens : (named : Files) → Opens named gave next one → Opens named gave next other → Same one other
    same_opens files.Nothing h k = same Nothing tt h k
    same_opens files.Content h k = same_file 1 (gave model_file) (λ bytes. next (Whole bytes)) (λ bytes. same (Whole bytes) tt) h k
    same_opens files.Model h k =
        same_file 1 (gave model_file) (λ bytes. ReadsTo (model_of bytes) (λ model. next (Model model)))
        (λ bytes. same_read IsOfRefusal same_refusal (λ model. next (Model model)) (λ model. same (Model model)) bytes (model_of bytes) refl) h k
    same_opens (files.ModelAnd limit) h k = same_both limit (λ bytes. IsOfRefusal) (λ bytes. same_refusal) h k
    same_opens (files.ContentAnd limit) h k = same_both limit (λ bytes refusal. next (Whole bytes)) (λ bytes refusal. same (Whole bytes) tt) h k

-- ---- an outcome with a status of the command's own

status_of : (found other : Outcome) → found ≡ other → found.status ≡ other.status
status_of found other is = ap (λ (o : Outcome). o.status) is

-- what a fetch of these bytes gave is these bytes
same_bytes : (limit : ℕ) (content bytes : List ℕ) → (if nat_lt limit (length content) then TooLong else Bytes content) ≡ Bytes bytes → bytes ≡ content
same_bytes limit content bytes is = by_test (nat_lt limit (length content)) is
  where
    equal : (xs ys : List ℕ) → Bytes xs ≡ Bytes ys → xs ≡ ys
    equal xs ys same = cc

    by_test : (test : Bool) → (if test then TooLong else Bytes content) ≡ Bytes bytes → bytes ≡ content
    by_test true is = absurd cc
    by_test false is = sym (equal content bytes is)

-- such a status isn't that of a fetch, nor of a model that is refused
pub no_fault_of_file : (status : ℕ) → IsOfContent status → 3 ≤ status → status ≤ 5 → ⊥
no_fault_of_file status (inl done) low high = omega (arith, done, low)
no_fault_of_file status (inr (inl few)) low high = omega (arith, few.0, high)
no_fault_of_file status (inr (inr many)) low high = omega (arith, many, high)

-- nor that of a write fault, or of want of memory
pub no_write_fault : (status : ℕ) → IsOfContent status → status ≡ WRITE_FAULT → ⊥
no_write_fault status (inl done) is = omega (arith, done, is)
no_write_fault status (inr (inl few)) is = omega (arith, few.1, is)
no_write_fault status (inr (inr many)) is = omega (arith, many, is)

pub no_want : (status : ℕ) → IsOfContent status → status ≡ NO_MEMORY → ⊥
no_want status (inl done) is = omega (arith, done, is)
no_want status (inr (inl few)) is = omega (arith, few.1, is)
no_want status (inr (inr many)) is = omega (arith, many, is)

module _ (found : Outcome) (own : IsOfContent found.status) where
  fails : (other : Outcome) → found ≡ other → 3 ≤ other.status → other.status ≤ 5 → ⊥
  fails other is low high = no_fault_of_file found.status own (omega (arith, status_of found other is, low)) (omega (arith, status_of found other is, high))

  -- the bytes of a file
  done_file : (place : ℕ) (fetch : Fetched) (next : List ℕ → Outcome → Type 0) → OpensTo place fetch next found → (bytes : List ℕ) × (fetch ≡ Bytes bytes) × next bytes found
  done_file place Unasked next opens = absurd opens
  done_file place Fault next opens = absurd (fails (read_fault place) opens (omega arith) (omega arith))
  done_file place TooLong next opens = absurd (fails (long_file place) opens (omega arith) (omega arith))
  done_file place (Bytes bytes) next opens = (bytes, refl, opens)

  done_validated : (bytes : List ℕ) (model : SystemModel) (refusal : Option Refusal) (next : SystemModel → Outcome → Type 0) → model_of bytes ≡ Ok model → refusal_of model ≡ refusal
      → ValidatesTo model refusal next found → (m : SystemModel) × MeansModel bytes m × next m found
  done_validated bytes model None next means none is = (model, record { means = means; unrefused = none }, is)
  done_validated bytes model (Some refusal) next means some is = absurd (fails (model_refused refusal) is (omega arith) (omega arith))

  done_read : (bytes : List ℕ) (read : Result SystemModel Refusal) (next : SystemModel → Outcome → Type 0) → model_of bytes ≡ read
      → ReadsTo read next found → (m : SystemModel) × MeansModel bytes m × next m found
  done_read bytes (Ok model) next means is = done_validated bytes model (refusal_of model) next means refl is
  done_read bytes (Err refusal) next means is = absurd (fails (model_refused refusal) is (omega arith) (omega arith))

  -- the model of a file
  pub done_model : (fetch : Fetched) (next : SystemModel → Outcome → Type 0) → OpensTo 1 fetch (λ bytes. ReadsTo (model_of bytes) next) found
      → (bytes : List ℕ) × (fetch ≡ Bytes bytes) × ((m : SystemModel) × MeansModel bytes m × next m found)
  done_model fetch next opens = let (bytes, gave, reads) = done_file 1 fetch (λ bytes. ReadsTo (model_of bytes) next) opens in (bytes, gave, done_read bytes (model_of bytes) next refl reads)

-- what told files hold, where a command ends with a status of its own, and what comes next of it
pub record IsOfTold (named : Files) (contents : ℕ → List ℕ) (next : Content → Outcome → Type 0) (found : Outcome) : Type 0 where
  pub content : Content
  pub means : Means named contents content
  pub opened : IsOpened content
  pub comes : next content found

module _ (contents : ℕ → List ℕ) (next : Content → Outcome → Type 0) (found : Outcome) (own : IsOfContent found.status) where
  told_model : (n : SystemModel → Outcome → Type 0) → OpensTo 1 (told_fetch contents model_file) (λ bytes. ReadsTo (model_of bytes) n) found
      → (m : SystemModel) × MeansModel (contents 1) m × n m found
  told_model n opens =
      let (bytes, gave, (m, means, comes)) = done_model found own (told_fetch contents model_file) n opens in
      (m, subst (λ (b : List ℕ). MeansModel b m) (same_bytes FILE_LIMIT (contents 1) bytes gave) means, comes)

  told_second : (limit : ℕ) (m : SystemModel) → OpensSecond limit (told_fetch contents) next m found → (text : List ℕ) × (text ≡ contents 2) × next (ModelAnd m text) found
  told_second limit m opens =
      let (text, gave, comes) = done_file found own 2 (told_fetch contents (second_file limit)) (λ text. next (ModelAnd m text)) opens in
      (text, same_bytes limit (contents 2) text gave, comes)

  -- the first file may be refused
  module _ (limit : ℕ) (bytes : List ℕ) (same : bytes ≡ contents 1) where
    told_none : MeansNone bytes → next (Whole bytes) found → IsOfTold (files.ContentAnd limit) contents next found
    told_none none comes = record { content = Whole bytes; means = (same, none); opened = tt; comes = comes }

    told_validated : (model : SystemModel) (refusal : Option Refusal) → model_of bytes ≡ Ok model → refusal_of model ≡ refusal
        → ValidatesEither model refusal (λ r. next (Whole bytes)) (OpensSecond limit (told_fetch contents) next) found → IsOfTold (files.ContentAnd limit) contents next found
    told_validated model None reads none opens =
        let of_bytes : MeansModel bytes model = record { means = reads; unrefused = none } in
        let means : MeansModel (contents 1) model = subst (λ (b : List ℕ). MeansModel b model) same of_bytes in
        let (text, is, comes) = told_second limit model opens in
        record { content = ModelAnd model text; means = (means, is); opened = good_model (contents 1) model means; comes = comes }
    told_validated model (Some refusal) reads some comes = told_none (none_of_refused bytes model refusal reads some) comes

    told_read : (read : Result SystemModel Refusal) → model_of bytes ≡ read
        → ReadsEither read (λ r. next (Whole bytes)) (OpensSecond limit (told_fetch contents) next) found → IsOfTold (files.ContentAnd limit) contents next found
    told_read (Ok model) reads opens = told_validated model (refusal_of model) reads refl opens
    told_read (Err refusal) reads comes = told_none (none_of_unread bytes refusal reads) comes

  pub opens_of_told : (named : Files) → Opens named (told_fetch contents) next found → IsOfTold named contents next found
  opens_of_told files.Nothing opens = record { content = Nothing; means = tt; opened = tt; comes = opens }
  opens_of_told files.Content opens =
      let (bytes, gave, comes) = done_file found own 1 (told_fetch contents model_file) (λ bytes. next (Whole bytes)) opens in
      record { content = Whole bytes; means = same_bytes FILE_LIMIT (contents 1) bytes gave; opened = tt; comes = comes }
  opens_of_told files.Model opens =
      let (m, means, comes) = told_model (λ m. next (Model m)) opens in
      record { content = Model m; means = means; opened = good_model (contents 1) m means; comes = comes }
  opens_of_told (files.ModelAnd limit) opens =
      let (m, means, reads) = told_model (OpensSecond limit (told_fetch contents) next) opens in
      let (text, is, comes) = told_second limit m reads in
      record { content = ModelAnd m text; means = (means, is); opened = good_model (contents 1) m means; comes = comes }
  opens_of_told (files.ContentAnd limit) opens =
      let (bytes, gave, reads) = done_file found own 1 (told_fetch contents model_file)
      (λ bytes. ReadsEither (model_of bytes) (λ refusal. next (Whole bytes)) (OpensSecond limit (told_fetch contents) next)) opens in
      told_read limit bytes (same_bytes FILE_LIMIT (contents 1) bytes gave) (model_of bytes) refl reads
