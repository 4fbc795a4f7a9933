-- What a call comes to where the shelf tells the files.
use Rattle.std.proofs.Common.{◌≡◌, ◌⊎◌, ℕ, ◌+◌, ◌≤◌, inl, inr, List, [], ◌∷◌, Option, Some, None, Result, Ok, Err, refl, sym, ap, subst, arith, length}
use Rattle.std.specs.Prelude.{Contains, nat_lt, if◌then◌else◌}
use Rattle.std.specs.List.{AllByRecursion}
use Rattle.std.proofs.lemmas.Bool.Decides.{nat_tests}
use Rattle.std.proofs.lemmas.List.Elements.{All-contains, All-from_recursion}
use Rattle.cl_io.specs.{Counts.Rose, Sink.appended, Shelf.{Held, Content as Told, MayBe, MayHave}}
use Rattle.cl_model.specs.{declared.{model.SystemModel.SystemModel, refusal.Refusal.Refusal}, Reading.model_of, Validity.refusal_of}
use Rattle.cl_engine.specs.{declared.{files.Files.Files, outcome.Outcome.Outcome}, Calls.{ShelfCall, SinkCall}, Content.{Content, Nothing, Bytes as Whole, Model, ModelAnd, MeansModel, Means}, Fetched.{Fetched, Unasked, Bytes, Fault, TooLong, EachFile, SomeFile, FileRose, FileGave}}
use Rattle.cl_engine.specs.{Fetched.{MayGive, TellsFiles, NoneRose, told_fetch}, Files.{File, model_file, second_file, files_named, word}, Inner.Opened.{GivesModel, GivesContent}, Language.{Language, files_asked, files_of, IsOfContent}, Outcome.{IsOfRefusal, ReadsEither, ReadsTo}}
use Rattle.cl_engine.specs.{Outcome.{ValidatesEither, OpensTo, OpensFile, OpensSecond, OpensBoth, Opens, HasOutcome}, Run.{ComesAs, ComesTo, ComesToTold, IsFileFault, IsWhole, IsCarriedOut}}
use Rattle.cl_engine.specs.declared.files.Files.TheVariants as files
use Rattle.cl_engine.proofs.{Endings.{Carried, counted_rose}, Outcomes.{no_fault_of_file, no_write_fault}}

pub told_bytes : (limit : ℕ) (content : List ℕ) → length content ≤ limit → (if nat_lt limit (length content) then TooLong else Bytes content) ≡ Bytes content
told_bytes limit content within = grind (arith, nat_tests)

pub told_long : (limit : ℕ) (content : List ℕ) → limit + 1 ≤ length content → (if nat_lt limit (length content) then TooLong else Bytes content) ≡ TooLong
told_long limit content long = grind (arith, nat_tests)

-- what holds of each element holds of the one
each_of : {X : Type 0} (P : X → Type 0) (xs : List X) (x : X) → AllByRecursion P xs → Contains xs x → P x
each_of P xs x all one = All-contains P xs x (All-from_recursion P xs all) one

module _ (words : List (List ℕ)) (shelf : ShelfCall) (contents : ℕ → List ℕ) (files : List File) (found : Outcome) where
  -- a fault of a file whose count rose
  abbrev pub Faulted : Type 0
  Faulted = SomeFile files (λ file. FileRose words shelf file × IsFileFault file found)

  -- the opening of a file that is told
  module _ (file : File) (within : Contains files file) (next told : List ℕ → Outcome → Type 0) (after_told : (bytes : List ℕ) → next bytes found → told bytes found ⊎ Faulted) where
    by_fetch : (fetch : Fetched) (content : List ℕ) → shelf.held (word words file.place) ≡ Told content → MayGive shelf (word words file.place) file.limit fetch
        → OpensTo file.place fetch next found → OpensTo file.place (if nat_lt file.limit (length content) then TooLong else Bytes content) told found ⊎ Faulted
    by_fetch Unasked content tells may opens = absurd opens
    by_fetch Fault content tells may opens = inr (file, within, (may, inl opens))
    by_fetch TooLong content tells (inl rose, past) opens = inr (file, within, (rose, inr opens))
    by_fetch TooLong content tells (inr more, past) opens =
        let longer : file.limit + 1 ≤ length content = subst (λ (h : Held). MayHave h (file.limit + 1)) tells more in
        inl (subst (λ (f : Fetched). OpensTo file.place f told found) (sym (told_long file.limit content longer)) opens)
    by_fetch (Bytes bytes) content tells may opens =
        let same : bytes ≡ content = subst (λ (h : Held). MayBe h bytes) tells may.0 in
        let bound : length content ≤ file.limit = subst (λ (b : List ℕ). length b ≤ file.limit) same may.1 in
        elim (after_told content (subst (λ (b : List ℕ). next b found) same opens)) [
          | inl comes ↦ inl (subst (λ (f : Fetched). OpensTo file.place f told found) (sym (told_bytes file.limit content bound)) comes)
          | inr faulted ↦ inr faulted
        ]

    pub opens_told : (gave : File → Fetched) → FileGave words shelf gave file → shelf.held (word words file.place) ≡ Told (contents file.place)
        → OpensFile file gave next found → OpensFile file (told_fetch contents) told found ⊎ Faulted
    opens_told gave may tells opens = by_fetch (gave file) (contents file.place) tells may opens

  -- what comes next of a model that is read
  module _ (refused : Refusal → Outcome → Type 0) (next told : SystemModel → Outcome → Type 0) (after_told : (model : SystemModel) → next model found → told model found ⊎ Faulted) where
    validated_told : (model : SystemModel) (refusal : Option Refusal) → ValidatesEither model refusal refused next found → ValidatesEither model refusal refused told found ⊎ Faulted
    validated_told model None is = after_told model is
    validated_told model (Some refusal) is = inl is

    pub read_told : (read : Result SystemModel Refusal) → ReadsEither read refused next found → ReadsEither read refused told found ⊎ Faulted
    read_told (Ok model) is = validated_told model (refusal_of model) is
    read_told (Err refusal) is = inl is

module _ (words : List (List ℕ)) (shelf : ShelfCall) (contents : ℕ → List ℕ) where
  module _ (gave : File → Fetched) (next : Content → Outcome → Type 0) (found : Outcome) where
    -- the outcome of two files that are told
    told_both : (limit : ℕ) (refused : List ℕ → Refusal → Outcome → Type 0) → EachFile (model_file ∷ second_file limit ∷ []) (FileGave words shelf gave)
        → TellsFiles (model_file ∷ second_file limit ∷ []) words shelf.held contents → OpensBoth limit gave refused next found
        → OpensBoth limit (told_fetch contents) refused next found ⊎ Faulted words shelf contents (model_file ∷ second_file limit ∷ []) found
    told_both limit refused may tells is =
        let both = model_file ∷ second_file limit ∷ [] in
        let own : SystemModel → Outcome → Type 0 = OpensSecond limit gave next in
        let told : SystemModel → Outcome → Type 0 = OpensSecond limit (told_fetch contents) next in
        opens_told words shelf contents both found model_file (0, omega arith, refl) (λ bytes. ReadsEither (model_of bytes) (refused bytes) own)
        (λ bytes. ReadsEither (model_of bytes) (refused bytes) told)
        (λ bytes. read_told words shelf contents both found (refused bytes) own told
        (λ model. opens_told words shelf contents both found (second_file limit) (1, omega arith, refl) (λ text. next (ModelAnd model text)) (λ text. next (ModelAnd model text))
        (λ text h. inl h) gave may.1.0 tells.1.0) (model_of bytes))
        gave may.0 tells.0 is

    -- that of files that are told
    told_opens : (named : Files) → EachFile (files_named named) (FileGave words shelf gave) → TellsFiles (files_named named) words shelf.held contents
        → Opens named gave next found → Opens named (told_fetch contents) next found ⊎ Faulted words shelf contents (files_named named) found
    told_opens files.Nothing may tells is = inl is
    told_opens files.Content may tells is =
        opens_told words shelf contents (model_file ∷ []) found model_file (0, omega arith, refl) (λ bytes. next (Whole bytes)) (λ bytes. next (Whole bytes))
        (λ bytes h. inl h) gave may.0 tells.0 is
    told_opens files.Model may tells is =
        let reads : List ℕ → Outcome → Type 0 = λ bytes. ReadsTo (model_of bytes) (λ model. next (Model model)) in
        opens_told words shelf contents (model_file ∷ []) found model_file (0, omega arith, refl) reads reads (λ bytes h. inl h) gave may.0 tells.0 is
    told_opens (files.ModelAnd limit) may tells is = told_both limit (λ bytes. IsOfRefusal) may tells is
    told_opens (files.ContentAnd limit) may tells is = told_both limit (λ bytes refusal. next (Whole bytes)) may tells is

  -- what the told files mean is what they gave
  bytes_told : (gave : File → Fetched) (file : File) (bytes : List ℕ) → FileGave words shelf gave file → shelf.held (word words file.place) ≡ Told (contents file.place)
      → gave file ≡ Bytes bytes → bytes ≡ contents file.place
  bytes_told gave file bytes may tells is =
      let given = subst (λ (f : Fetched). MayGive shelf (word words file.place) file.limit f) is may in
      subst (λ (h : Held). MayBe h bytes) tells given.0

  model_told : (gave : File → Fetched) (model : SystemModel) → FileGave words shelf gave model_file → shelf.held (word words 1) ≡ Told (contents 1)
      → GivesModel (gave model_file) model → MeansModel (contents 1) model
  model_told gave model may tells (bytes, is, means) = subst (λ (b : List ℕ). MeansModel b model) (bytes_told gave model_file bytes may tells is) means

  pub gives_mean : (gave : File → Fetched) (named : Files) (content : Content) → EachFile (files_named named) (FileGave words shelf gave)
      → TellsFiles (files_named named) words shelf.held contents → GivesContent named gave content → Means named contents content
  gives_mean gave files.Nothing Nothing may tells is = tt
  gives_mean gave files.Nothing (Whole bytes) may tells is = absurd is
  gives_mean gave files.Nothing (Model model) may tells is = absurd is
  gives_mean gave files.Nothing (ModelAnd model text) may tells is = absurd is
  gives_mean gave files.Content Nothing may tells is = absurd is
  gives_mean gave files.Content (Whole bytes) may tells is = bytes_told gave model_file bytes may.0 tells.0 is
  gives_mean gave files.Content (Model model) may tells is = absurd is
  gives_mean gave files.Content (ModelAnd model text) may tells is = absurd is
  gives_mean gave files.Model Nothing may tells is = absurd is
  gives_mean gave files.Model (Whole bytes) may tells is = absurd is
  gives_mean gave files.Model (Model model) may tells is = model_told gave model may.0 tells.0 is
  gives_mean gave files.Model (ModelAnd model text) may tells is = absurd is
  gives_mean gave (files.ModelAnd limit) Nothing may tells is = absurd is
  gives_mean gave (files.ModelAnd limit) (Whole bytes) may tells is = absurd is
  gives_mean gave (files.ModelAnd limit) (Model model) may tells is = absurd is
  gives_mean gave (files.ModelAnd limit) (ModelAnd model text) may tells is =
      (model_told gave model may.0 tells.0 is.0, bytes_told gave (second_file limit) text may.1.0 tells.1.0 is.1)
  gives_mean gave (files.ContentAnd limit) Nothing may tells is = absurd is
  gives_mean gave (files.ContentAnd limit) (Whole bytes) may tells is = (bytes_told gave model_file bytes may.0 tells.0 is.0, is.1)
  gives_mean gave (files.ContentAnd limit) (Model model) may tells is = absurd is
  gives_mean gave (files.ContentAnd limit) (ModelAnd model text) may tells is =
      (model_told gave model may.0 tells.0 is.0, bytes_told gave (second_file limit) text may.1.0 tells.1.0 is.1)

  module _ {C : Type 0} (language : Language C) where
    -- the outcome of each command, where its files are told
    told_comes : (asked : Option C) (found : Outcome) → TellsFiles (files_asked language asked) words shelf.held contents → ComesAs language asked words shelf found
        → ComesToTold language asked words shelf contents found
    told_comes None found tells comes = inl comes.follows
    told_comes (Some asked) found tells comes = told_opens comes.gave (language.comes_to asked) found (language.files asked) comes.files tells comes.follows

    module _ {K : Type 0} (sink : SinkCall K) (found : Outcome) (status : ℕ) (comes : ComesTo language words shelf found) (carried : Carried sink found status)
        (tells : TellsFiles (files_of language words) words shelf.held contents) where
      pub told_ends : IsCarriedOut (ComesToTold language (language.spelled words) words shelf contents) sink status
      told_ends = record { found = found; comes_to = told_comes (language.spelled words) found tells comes; carried = carried }

      module _ (none : NoneRose (files_of language words) words shelf) where
        whole_told : IsWhole sink found status → (outcome : Outcome) × HasOutcome language (language.spelled words) (told_fetch contents) outcome × IsWhole sink outcome status
        whole_told whole = elim (told_comes (language.spelled words) found tells comes) [
          | inl told ↦ (found, told, whole)
          | inr faulted ↦ absurd (each_of (λ file. FileRose words shelf file → ⊥) (files_of language words) faulted.0 none faulted.1 faulted.2.0)
        ]

        pub told_keeps : (Rose (sink.faults sink.before) (sink.faults sink.after) → ⊥)
            → (outcome : Outcome) × HasOutcome language (language.spelled words) (told_fetch contents) outcome × IsWhole sink outcome status
        told_keeps unfailed = elim carried [ inl whole ↦ whole_told whole | inr cut ↦ absurd (unfailed (counted_rose _ _ cut.once)) ]

-- what a command that ended with a status of its own was told
pub record IsToldOwn {C K : Type 0} (language : Language C) (words : List (List ℕ)) (contents : ℕ → List ℕ) (sink : SinkCall K) (status : ℕ) : Type 0 where
  pub found : Outcome
  pub has : HasOutcome language (language.spelled words) (told_fetch contents) found
  pub own_status : found.status ≡ status
  pub whole : sink.written sink.after ≡ appended (sink.written sink.before) found.text

pub told_own : {C K : Type 0} (language : Language C) (words : List (List ℕ)) (shelf : ShelfCall) (contents : ℕ → List ℕ) (sink : SinkCall K) (status : ℕ)
    → IsOfContent status → IsCarriedOut (ComesToTold language (language.spelled words) words shelf contents) sink status → IsToldOwn language words contents sink status
told_own language words shelf contents sink status own carried = elim carried.carried [
  | inl whole ↦ elim carried.comes_to [
    | inl told ↦ record { found = carried.found; has = told; own_status = sym whole.own_status; whole = whole.whole_text }
    | inr faulted ↦ absurd (no_fault faulted.0 whole.own_status faulted.2.1)
  ]
  | inr cut ↦ absurd (no_write_fault status own cut.fault_status)
]
  where
    no_fault : (file : File) → status ≡ carried.found.status → IsFileFault file carried.found → ⊥
    no_fault file is (inl fault) = no_fault_of_file status own (omega (arith, is, ap (λ (o : Outcome). o.status) fault)) (omega (arith, is, ap (λ (o : Outcome). o.status) fault))
    no_fault file is (inr long) = no_fault_of_file status own (omega (arith, is, ap (λ (o : Outcome). o.status) long)) (omega (arith, is, ap (λ (o : Outcome). o.status) long))
