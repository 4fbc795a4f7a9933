-- The opening of files, whatever comes next.
use Rattle.std.proofs.Common.{◌≡◌, ℕ, List, Vec, Option, Some, None, Result, Ok, Err, refl, sym, ap, ◌∙◌, subst}
use Rattle.std.specs.declared.alloc.Global.{Global}
use Rattle.cl_model.specs.{declared.{model.SystemModel.SystemModel, refusal.Refusal.Refusal}, Reading.model_of, Validity.{refusals_of, refusal_of, IsValid}}
use Rattle.cl_model.proofs.{ReadModels.read_in_range, Refused.none_refused}
use Rattle.cl_engine.specs.{declared.{files.Files.Files, outcome.Outcome.Outcome}, Content.{Content, Nothing, Bytes as Whole, Model, ModelAnd, MeansModel, MeansNone, Fits}, Fetched.{Fetched, Unasked, Bytes, Fault, TooLong, IsAccepted}, Files.{File, model_file, second_file}}
use Rattle.cl_engine.specs.{Inner.Opened.{NoNext, IsReadAs, IsOpenedAs, GivesModel, GivesNone, GivesContent}, Outcome.{IsOfRefusal, ValidatesEither, ReadsEither, ReadsTo, OpensTo, OpensSecond, OpensBoth, Opens}}
use Rattle.cl_engine.specs.declared.files.Files.TheVariants as files
use Rattle.cl_engine.specs.declared.opening.OpenedModel.TheVariants as model_opened

-- a model that is read and not refused is valid
pub valid_read : (bytes : List ℕ) (model : SystemModel) → MeansModel bytes model → IsValid model
valid_read bytes model is = record {
  in_range = read_in_range bytes model is.means;
  accepted = none_refused (refusals_of model) is.unrefused;
}

-- ---- bytes that mean no accepted model

module _ (bytes : List ℕ) where
  -- their model is refused
  pub none_of_refused : (model : SystemModel) (refusal : Refusal) → model_of bytes ≡ Ok model → refusal_of model ≡ Some refusal → MeansNone bytes
  none_of_refused model refusal means refused = λ other is.
      let reads : model_of bytes ≡ Ok other = is.means in
      let same : other ≡ model = cc in
      let none : refusal_of model ≡ None = subst (λ (m : SystemModel). refusal_of m ≡ None) same is.unrefused in
      absurd cc

  -- or they are, by the reading
  pub none_of_unread : (refusal : Refusal) → model_of bytes ≡ Err refusal → MeansNone bytes
  none_of_unread refusal means = λ other is.
      let reads : model_of bytes ≡ Ok other = is.means in
      absurd cc

  -- so they aren't accepted
  pub not_accepted : MeansNone bytes → IsAccepted (Bytes bytes) → ⊥
  not_accepted none (model, is) = none model is

-- ---- where more comes next

module _ (found : Outcome) where
  pub opens_more : (place : ℕ) (fetch : Fetched) (one other : List ℕ → Outcome → Type 0) → ((bytes : List ℕ) → one bytes found → other bytes found)
      → OpensTo place fetch one found → OpensTo place fetch other found
  opens_more place Unasked one other more opens = opens
  opens_more place Fault one other more opens = opens
  opens_more place TooLong one other more opens = opens
  opens_more place (Bytes bytes) one other more opens = more bytes opens

  module _ (stops goes : Refusal → Outcome → Type 0) (refused : (refusal : Refusal) → stops refusal found → goes refusal found)
      (one other : SystemModel → Outcome → Type 0) (more : (model : SystemModel) → one model found → other model found) where
    validates_more : (model : SystemModel) (refusal : Option Refusal) → ValidatesEither model refusal stops one found → ValidatesEither model refusal goes other found
    validates_more model None is = more model is
    validates_more model (Some refusal) is = refused refusal is

    reads_more : (read : Result SystemModel Refusal) → ReadsEither read stops one found → ReadsEither read goes other found
    reads_more (Ok model) is = validates_more model (refusal_of model) is
    reads_more (Err refusal) is = refused refusal is

  pub model_more : (gave : File → Fetched) (stops goes : List ℕ → Refusal → Outcome → Type 0) → ((bytes : List ℕ) (refusal : Refusal) → stops bytes refusal found → goes bytes refusal found)
      → (one other : SystemModel → Outcome → Type 0) → ((model : SystemModel) → one model found → other model found)
      → OpensTo 1 (gave model_file) (λ bytes. ReadsEither (model_of bytes) (stops bytes) one) found
      → OpensTo 1 (gave model_file) (λ bytes. ReadsEither (model_of bytes) (goes bytes) other) found
  model_more gave stops goes refused one other more =
      opens_more 1 (gave model_file) (λ bytes. ReadsEither (model_of bytes) (stops bytes) one) (λ bytes. ReadsEither (model_of bytes) (goes bytes) other)
      (λ bytes. reads_more (stops bytes) (goes bytes) (refused bytes) one other more (model_of bytes))

  both_more : (limit : ℕ) (gave : File → Fetched) (stops goes : List ℕ → Refusal → Outcome → Type 0)
      → ((bytes : List ℕ) (refusal : Refusal) → stops bytes refusal found → goes bytes refusal found)
      → (one other : Content → Outcome → Type 0) → ((content : Content) → one content found → other content found)
      → OpensBoth limit gave stops one found → OpensBoth limit gave goes other found
  both_more limit gave stops goes refused one other more is =
      model_more gave stops goes refused (OpensSecond limit gave one) (OpensSecond limit gave other)
      (λ model. opens_more 2 (gave (second_file limit)) (λ text. one (ModelAnd model text)) (λ text. other (ModelAnd model text)) (λ text. more (ModelAnd model text))) is

  pub open_more : (named : Files) (gave : File → Fetched) (one other : Content → Outcome → Type 0) → ((content : Content) → one content found → other content found)
      → Opens named gave one found → Opens named gave other found
  open_more files.Nothing gave one other more is = more Nothing is
  open_more files.Content gave one other more is =
      opens_more 1 (gave model_file) (λ bytes. one (Whole bytes)) (λ bytes. other (Whole bytes)) (λ bytes. more (Whole bytes)) is
  open_more files.Model gave one other more is =
      model_more gave (λ bytes. IsOfRefusal) (λ bytes. IsOfRefusal) (λ bytes refusal same. same) (λ model. one (Model model)) (λ model. other (Model model)) (λ model. more (Model model)) is
  open_more (files.ModelAnd limit) gave one other more is =
      both_more limit gave (λ bytes. IsOfRefusal) (λ bytes. IsOfRefusal) (λ bytes refusal same. same) one other more is
  open_more (files.ContentAnd limit) gave one other more is =
      both_more limit gave (λ bytes refusal. one (Whole bytes)) (λ bytes refusal. other (Whole bytes)) (λ bytes refusal. more (Whole bytes)) one other more is

  -- an outcome in the place of what comes next
  pub stops_open : (named : Files) (gave : File → Fetched) (next : Content → Outcome → Type 0) → Opens named gave NoNext found → Opens named gave next found
  stops_open named gave next is = open_more named gave NoNext next (λ content none. absurd none) is

  -- ---- what comes next of what the files gave

  -- an accepted model
  next_read : (bytes : List ℕ) (model : SystemModel) (refused : Refusal → Outcome → Type 0) (next : SystemModel → Outcome → Type 0) → MeansModel bytes model → next model found
      → ReadsEither (model_of bytes) refused next found
  next_read bytes model refused next is after =
      subst (λ (read : Result SystemModel Refusal). ReadsEither read refused next found) (sym is.means)
      (subst (λ (refusal : Option Refusal). ValidatesEither model refusal refused next found) (sym is.unrefused) after)

  pub next_model : (fetch : Fetched) (model : SystemModel) (refused : List ℕ → Refusal → Outcome → Type 0) (next : SystemModel → Outcome → Type 0) → GivesModel fetch model → next model found
      → OpensTo 1 fetch (λ bytes. ReadsEither (model_of bytes) (refused bytes) next) found
  next_model fetch model refused next (bytes, gave, means) after =
      subst (λ (f : Fetched). OpensTo 1 f (λ whole. ReadsEither (model_of whole) (refused whole) next) found) (sym gave) (next_read bytes model (refused bytes) next means after)

  -- a model and a second file
  next_both : (limit : ℕ) (gave : File → Fetched) (refused : List ℕ → Refusal → Outcome → Type 0) (next : Content → Outcome → Type 0) (model : SystemModel) (text : List ℕ)
      → GivesModel (gave model_file) model → gave (second_file limit) ≡ Bytes text → next (ModelAnd model text) found → OpensBoth limit gave refused next found
  next_both limit gave refused next model text gives is after =
      next_model (gave model_file) model refused (OpensSecond limit gave next) gives
      (subst (λ (f : Fetched). OpensTo 2 f (λ whole. next (ModelAnd model whole)) found) (sym is) after)

  -- bytes that mean no accepted model
  module _ (refused : Refusal → Outcome → Type 0) (next : SystemModel → Outcome → Type 0) (after : (refusal : Refusal) → refused refusal found) (bytes : List ℕ) (none : MeansNone bytes) where
    none_validated : (model : SystemModel) (refusal : Option Refusal) → model_of bytes ≡ Ok model → refusal_of model ≡ refusal → ValidatesEither model refusal refused next found
    none_validated model None means is = absurd (none model (record { means = means; unrefused = is }))
    none_validated model (Some refusal) means is = after refusal

    none_read : (read : Result SystemModel Refusal) → model_of bytes ≡ read → ReadsEither read refused next found
    none_read (Ok model) means = none_validated model (refusal_of model) means refl
    none_read (Err refusal) means = after refusal

  next_none : (fetch : Fetched) (bytes : List ℕ) (next : List ℕ → Outcome → Type 0) (more : SystemModel → Outcome → Type 0) → GivesNone fetch bytes → next bytes found
      → OpensTo 1 fetch (λ whole. ReadsEither (model_of whole) (λ refusal. next whole) more) found
  next_none fetch bytes next more (gave, none) after =
      subst (λ (f : Fetched). OpensTo 1 f (λ whole. ReadsEither (model_of whole) (λ refusal. next whole) more) found) (sym gave)
      (none_read (λ refusal. next bytes) more (λ refusal. after) bytes none (model_of bytes) refl)

  pub gives_open : (named : Files) (gave : File → Fetched) (next : Content → Outcome → Type 0) (content : Content) → GivesContent named gave content → next content found
      → Opens named gave next found
  gives_open files.Nothing gave next Nothing is after = after
  gives_open files.Nothing gave next (Whole bytes) is after = absurd is
  gives_open files.Nothing gave next (Model model) is after = absurd is
  gives_open files.Nothing gave next (ModelAnd model text) is after = absurd is
  gives_open files.Content gave next Nothing is after = absurd is
  gives_open files.Content gave next (Whole bytes) is after = subst (λ (f : Fetched). OpensTo 1 f (λ whole. next (Whole whole)) found) (sym is) after
  gives_open files.Content gave next (Model model) is after = absurd is
  gives_open files.Content gave next (ModelAnd model text) is after = absurd is
  gives_open files.Model gave next Nothing is after = absurd is
  gives_open files.Model gave next (Whole bytes) is after = absurd is
  gives_open files.Model gave next (Model model) is after = next_model (gave model_file) model (λ bytes. IsOfRefusal) (λ m. next (Model m)) is after
  gives_open files.Model gave next (ModelAnd model text) is after = absurd is
  gives_open (files.ModelAnd limit) gave next Nothing is after = absurd is
  gives_open (files.ModelAnd limit) gave next (Whole bytes) is after = absurd is
  gives_open (files.ModelAnd limit) gave next (Model model) is after = absurd is
  gives_open (files.ModelAnd limit) gave next (ModelAnd model text) is after = next_both limit gave (λ bytes. IsOfRefusal) next model text is.0 is.1 after
  gives_open (files.ContentAnd limit) gave next Nothing is after = absurd is
  gives_open (files.ContentAnd limit) gave next (Whole bytes) is after = next_none (gave model_file) bytes (λ whole. next (Whole whole)) (OpensSecond limit gave next) is after
  gives_open (files.ContentAnd limit) gave next (Model model) is after = absurd is
  gives_open (files.ContentAnd limit) gave next (ModelAnd model text) is after = next_both limit gave (λ bytes refusal. next (Whole bytes)) next model text is.0 is.1 after

-- ---- what was opened

-- what was read as a valid model means it
means_of_read : (bytes : List ℕ) (read : Result SystemModel Refusal) (model : SystemModel) → model_of bytes ≡ read → IsReadAs bytes read (model_opened.Valid model) → MeansModel bytes model
means_of_read bytes (Ok read) model means is = record {
  means = means ∙ ap Ok (sym is.0);
  unrefused = subst (λ (m : SystemModel). refusal_of m ≡ None) (sym is.0) is.1;
}
means_of_read bytes (Err refusal) model means is = absurd is

pub gives_model : (fetch : Fetched) (model : SystemModel) → IsOpenedAs fetch (model_opened.Valid model) → GivesModel fetch model
gives_model Unasked model is = absurd is
gives_model Fault model is = absurd is
gives_model TooLong model is = absurd is
gives_model (Bytes bytes) model is = (bytes, refl, means_of_read bytes (model_of bytes) model refl is)

-- a fetch that gave a model is accepted
pub gives_accepted : (fetch : Fetched) (model : SystemModel) → GivesModel fetch model → IsAccepted fetch
gives_accepted fetch model (bytes, gave, means) = subst IsAccepted (sym gave) (model, means)

-- what was read as refused means no accepted model, and is refused with this
module _ (own : Vec ℕ Global) (why : Refusal) where
  none_of_read : (bytes : List ℕ) (read : Result SystemModel Refusal) → model_of bytes ≡ read → IsReadAs bytes read (model_opened.Refused own why) → GivesNone (Bytes bytes) own.items
  none_of_read bytes (Ok model) means is = (ap Bytes (sym is.0), subst MeansNone (sym is.0) (none_of_refused bytes model why means is.1))
  none_of_read bytes (Err refusal) means is = (ap Bytes (sym is.0), subst MeansNone (sym is.0) (none_of_unread bytes refusal means))

  pub gives_none : (fetch : Fetched) → IsOpenedAs fetch (model_opened.Refused own why) → GivesNone fetch own.items
  gives_none Unasked is = absurd is
  gives_none Fault is = absurd is
  gives_none TooLong is = absurd is
  gives_none (Bytes bytes) is = none_of_read bytes (model_of bytes) refl is

  module _ (found : Outcome) (refused : IsOfRefusal why found) (next : SystemModel → Outcome → Type 0) where
    read_refuses : (bytes : List ℕ) (read : Result SystemModel Refusal) → IsReadAs bytes read (model_opened.Refused own why) → ReadsTo read next found
    read_refuses bytes (Ok model) is = subst (λ (refusal : Option Refusal). ValidatesEither model refusal IsOfRefusal next found) (sym is.1) refused
    read_refuses bytes (Err refusal) is = subst (λ (r : Refusal). IsOfRefusal r found) is.1 refused

    -- and this is its outcome
    pub model_refuses : (fetch : Fetched) → IsOpenedAs fetch (model_opened.Refused own why) → OpensTo 1 fetch (λ bytes. ReadsTo (model_of bytes) next) found
    model_refuses Unasked is = absurd is
    model_refuses Fault is = absurd is
    model_refuses TooLong is = absurd is
    model_refuses (Bytes bytes) is = read_refuses bytes (model_of bytes) is

-- what stops a model file, whatever comes next
unstopped_read : (bytes : List ℕ) (read : Result SystemModel Refusal) (found : Outcome) → IsReadAs bytes read (model_opened.Stopped found) → ⊥
unstopped_read bytes (Ok model) found is = is
unstopped_read bytes (Err refusal) found is = is

pub model_stops : (fetch : Fetched) (found : Outcome) (next : List ℕ → Outcome → Type 0) → IsOpenedAs fetch (model_opened.Stopped found) → OpensTo 1 fetch next found
model_stops Unasked found next is = is
model_stops Fault found next is = is
model_stops TooLong found next is = is
model_stops (Bytes bytes) found next is = absurd (unstopped_read bytes (model_of bytes) found is)

-- what files gave fits them
pub gives_fit : (named : Files) (gave : File → Fetched) (content : Content) → GivesContent named gave content → Fits named content
unfolding Fits
gives_fit files.Nothing gave Nothing is = tt
gives_fit files.Nothing gave (Whole bytes) is = absurd is
gives_fit files.Nothing gave (Model model) is = absurd is
gives_fit files.Nothing gave (ModelAnd model text) is = absurd is
gives_fit files.Content gave Nothing is = absurd is
gives_fit files.Content gave (Whole bytes) is = tt
gives_fit files.Content gave (Model model) is = absurd is
gives_fit files.Content gave (ModelAnd model text) is = absurd is
gives_fit files.Model gave Nothing is = absurd is
gives_fit files.Model gave (Whole bytes) is = absurd is
gives_fit files.Model gave (Model model) is = tt
gives_fit files.Model gave (ModelAnd model text) is = absurd is
gives_fit (files.ModelAnd limit) gave Nothing is = absurd is
gives_fit (files.ModelAnd limit) gave (Whole bytes) is = absurd is
gives_fit (files.ModelAnd limit) gave (Model model) is = absurd is
gives_fit (files.ModelAnd limit) gave (ModelAnd model text) is = tt
gives_fit (files.ContentAnd limit) gave Nothing is = absurd is
gives_fit (files.ContentAnd limit) gave (Whole bytes) is = tt
gives_fit (files.ContentAnd limit) gave (Model model) is = absurd is
gives_fit (files.ContentAnd limit) gave (ModelAnd model text) is = tt
