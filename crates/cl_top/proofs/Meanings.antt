-- What is proved of each command by its own lemma, and that it is so of commands of each kind of files.
use Rattle.std.proofs.Common.{◌≡◌, ℕ, List, refl, sym, ◌∙◌}
use Rattle.cl_model.specs.{declared.model.SystemModel.SystemModel, AreNamed.AreNamed, Validity.IsValid}
use Rattle.cl_engine.specs.{declared.{files.Files.Files, outcome.Outcome.Outcome, status.TheConstants.DONE}, Content.{Content, Nothing, Bytes, Model, ModelAnd, Fits}, Done.IsDone, Language.IsOfContent, Outcome.MayEnd}
use Rattle.cl_engine.specs.declared.files.Files.TheVariants as files
use Rattle.cl_engine.proofs.Outcomes.{IsOpened, SomeOutcome}
use Rattle.cl_top.specs.Meaning.{Meaning, of_either, on_nothing, on_bytes, on_model, on_both}

-- ---- outcomes by their text

pub same_parts : (one other : Outcome) → one.status ≡ other.status → one.text ≡ other.text → one ≡ other
same_parts one other status text = λ i. record { status = status i; text = text i }

module _ (IsText : List ℕ → Type 0) where
  pub done_some : (text : List ℕ) → IsText text → SomeOutcome (IsDone IsText)
  done_some text is = (record { status = DONE; text = text }, record { status_is = refl; text_is = is })

  pub done_once : ((one other : List ℕ) → IsText one → IsText other → one ≡ other) → (one other : Outcome) → IsDone IsText one → IsDone IsText other → one ≡ other
  done_once once one other first second =
      same_parts one other (first.status_is ∙ sym second.status_is) (once one.text other.text first.text_is second.text_is)

-- ---- what is proved of a command with these files, of which this is known

pub record IsMeantWell (named : Files) (meaning : Meaning) (limited : Type 0) : Type 0 where
  -- what its files hold has an outcome
  pub some : (content : Content) → Fits named content → IsOpened content → limited → SomeOutcome (meaning.comes_to content)
  -- two outcomes of it say the same, as equal ones do
  pub once : (content : Content) → IsOpened content → (one other : Outcome) → meaning.comes_to content one → meaning.comes_to content other → meaning.same one other
  pub equally : (one other : Outcome) → one ≡ other → meaning.same one other
  -- it ends with a status of its own
  pub ends : (content : Content) (found : Outcome) → meaning.comes_to content found → MayEnd content named found
  -- no step is few
  pub no_steps : (content : Content) → Fits named content → (steps : ℕ) → meaning.takes content steps steps
  -- what it promises of its text holds at status 0
  pub holds : (content : Content) → IsOpened content → (found : Outcome) → meaning.comes_to content found → found.status ≡ DONE → meaning.safe content found.text

module _ (takes : Content → (before after : ℕ) → Type 0) (safe : Content → (text : List ℕ) → Type 0) (same : Outcome → Outcome → Type 0) (limited : Type 0)
    (equally : (one other : Outcome) → one ≡ other → same one other) where
  -- no file
  module _ (each : Outcome → Type 0) (some : limited → SomeOutcome each) (once : (one other : Outcome) → each one → each other → same one other)
      (own : (found : Outcome) → each found → IsOfContent found.status) (none : (steps : ℕ) → takes Nothing steps steps)
      (holds : (found : Outcome) → each found → found.status ≡ DONE → safe Nothing found.text) where
    some_alone : (content : Content) → Fits files.Nothing content → limited → SomeOutcome (on_nothing each content)
    unfolding Fits
    some_alone Nothing fits few = some few
    some_alone (Bytes bytes) fits few = absurd fits
    some_alone (Model model) fits few = absurd fits
    some_alone (ModelAnd model text) fits few = absurd fits

    once_alone : (content : Content) (one other : Outcome) → on_nothing each content one → on_nothing each content other → same one other
    once_alone Nothing one other h k = once one other h k
    once_alone (Bytes bytes) one other h k = absurd h
    once_alone (Model model) one other h k = absurd h
    once_alone (ModelAnd model text) one other h k = absurd h

    own_alone : (content : Content) (found : Outcome) → on_nothing each content found → MayEnd content files.Nothing found
    own_alone Nothing found is = own found is
    own_alone (Bytes bytes) found is = absurd is
    own_alone (Model model) found is = absurd is
    own_alone (ModelAnd model text) found is = absurd is

    none_alone : (content : Content) → Fits files.Nothing content → (steps : ℕ) → takes content steps steps
    unfolding Fits
    none_alone Nothing fits steps = none steps
    none_alone (Bytes bytes) fits steps = absurd fits
    none_alone (Model model) fits steps = absurd fits
    none_alone (ModelAnd model text) fits steps = absurd fits

    holds_alone : (content : Content) (found : Outcome) → on_nothing each content found → found.status ≡ DONE → safe content found.text
    holds_alone Nothing found is done = holds found is done
    holds_alone (Bytes bytes) found is done = absurd is
    holds_alone (Model model) found is done = absurd is
    holds_alone (ModelAnd model text) found is done = absurd is

    pub alone_well : IsMeantWell files.Nothing (record { comes_to = on_nothing each; takes = takes; safe = safe; same = same }) limited
    alone_well = record {
      some = λ content fits opened few. some_alone content fits few;
      once = λ content opened. once_alone content;
      equally = equally;
      ends = own_alone;
      no_steps = none_alone;
      holds = λ content opened. holds_alone content;
    }

  -- the bytes of a file
  module _ (each : List ℕ → Outcome → Type 0) (some : (bytes : List ℕ) → SomeOutcome (each bytes)) (once : (bytes : List ℕ) (one other : Outcome) → each bytes one → each bytes other → same one other)
      (own : (bytes : List ℕ) (found : Outcome) → each bytes found → MayEnd (Bytes bytes) files.Content found) (none : (bytes : List ℕ) (steps : ℕ) → takes (Bytes bytes) steps steps)
      (holds : (bytes : List ℕ) (found : Outcome) → each bytes found → found.status ≡ DONE → safe (Bytes bytes) found.text) where
    some_bytes : (content : Content) → Fits files.Content content → SomeOutcome (on_bytes each content)
    unfolding Fits
    some_bytes Nothing fits = absurd fits
    some_bytes (Bytes bytes) fits = some bytes
    some_bytes (Model model) fits = absurd fits
    some_bytes (ModelAnd model text) fits = absurd fits

    once_bytes : (content : Content) (one other : Outcome) → on_bytes each content one → on_bytes each content other → same one other
    once_bytes Nothing one other h k = absurd h
    once_bytes (Bytes bytes) one other h k = once bytes one other h k
    once_bytes (Model model) one other h k = absurd h
    once_bytes (ModelAnd model text) one other h k = absurd h

    own_bytes : (content : Content) (found : Outcome) → on_bytes each content found → MayEnd content files.Content found
    own_bytes Nothing found is = absurd is
    own_bytes (Bytes bytes) found is = own bytes found is
    own_bytes (Model model) found is = absurd is
    own_bytes (ModelAnd model text) found is = absurd is

    none_bytes : (content : Content) → Fits files.Content content → (steps : ℕ) → takes content steps steps
    unfolding Fits
    none_bytes Nothing fits steps = absurd fits
    none_bytes (Bytes bytes) fits steps = none bytes steps
    none_bytes (Model model) fits steps = absurd fits
    none_bytes (ModelAnd model text) fits steps = absurd fits

    holds_bytes : (content : Content) (found : Outcome) → on_bytes each content found → found.status ≡ DONE → safe content found.text
    holds_bytes Nothing found is done = absurd is
    holds_bytes (Bytes bytes) found is done = holds bytes found is done
    holds_bytes (Model model) found is done = absurd is
    holds_bytes (ModelAnd model text) found is done = absurd is

    pub bytes_well : IsMeantWell files.Content (record { comes_to = on_bytes each; takes = takes; safe = safe; same = same }) limited
    bytes_well = record {
      some = λ content fits opened few. some_bytes content fits;
      once = λ content opened. once_bytes content;
      equally = equally;
      ends = own_bytes;
      no_steps = none_bytes;
      holds = λ content opened. holds_bytes content;
    }

  -- a model
  module _ (each : SystemModel → Outcome → Type 0) (some : (model : SystemModel) → IsValid model → AreNamed model → limited → SomeOutcome (each model))
      (once : (model : SystemModel) → IsValid model → (one other : Outcome) → each model one → each model other → same one other)
      (own : (model : SystemModel) (found : Outcome) → each model found → IsOfContent found.status) (none : (model : SystemModel) (steps : ℕ) → takes (Model model) steps steps)
      (holds : (model : SystemModel) → IsValid model → (found : Outcome) → each model found → found.status ≡ DONE → safe (Model model) found.text) where
    some_model : (content : Content) → Fits files.Model content → IsOpened content → limited → SomeOutcome (on_model each content)
    unfolding Fits
    some_model Nothing fits opened few = absurd fits
    some_model (Bytes bytes) fits opened few = absurd fits
    some_model (Model model) fits opened few = some model opened.0 opened.1 few
    some_model (ModelAnd model text) fits opened few = absurd fits

    once_model : (content : Content) → IsOpened content → (one other : Outcome) → on_model each content one → on_model each content other → same one other
    once_model Nothing opened one other h k = absurd h
    once_model (Bytes bytes) opened one other h k = absurd h
    once_model (Model model) opened one other h k = once model opened.0 one other h k
    once_model (ModelAnd model text) opened one other h k = absurd h

    own_model : (content : Content) (found : Outcome) → on_model each content found → MayEnd content files.Model found
    own_model Nothing found is = absurd is
    own_model (Bytes bytes) found is = absurd is
    own_model (Model model) found is = own model found is
    own_model (ModelAnd model text) found is = absurd is

    none_model : (content : Content) → Fits files.Model content → (steps : ℕ) → takes content steps steps
    unfolding Fits
    none_model Nothing fits steps = absurd fits
    none_model (Bytes bytes) fits steps = absurd fits
    none_model (Model model) fits steps = none model steps
    none_model (ModelAnd model text) fits steps = absurd fits

    holds_model : (content : Content) → IsOpened content → (found : Outcome) → on_model each content found → found.status ≡ DONE → safe content found.text
    holds_model Nothing opened found is done = absurd is
    holds_model (Bytes bytes) opened found is done = absurd is
    holds_model (Model model) opened found is done = holds model opened.0 found is done
    holds_model (ModelAnd model text) opened found is done = absurd is

    pub model_well : IsMeantWell files.Model (record { comes_to = on_model each; takes = takes; safe = safe; same = same }) limited
    model_well = record { some = some_model; once = once_model; equally = equally; ends = own_model; no_steps = none_model; holds = holds_model }

  -- a model and a second file
  module _ (limit : ℕ) (each : SystemModel → (second : List ℕ) → Outcome → Type 0) (some : (model : SystemModel) → IsValid model → AreNamed model → (text : List ℕ) → SomeOutcome (each model text))
      (once : (model : SystemModel) → IsValid model → AreNamed model → (text : List ℕ) (one other : Outcome) → each model text one → each model text other → same one other)
      (own : (model : SystemModel) (text : List ℕ) (found : Outcome) → each model text found → IsOfContent found.status)
      (none : (model : SystemModel) (text : List ℕ) (steps : ℕ) → takes (ModelAnd model text) steps steps)
      (holds : (model : SystemModel) → IsValid model → (text : List ℕ) (found : Outcome) → each model text found → found.status ≡ DONE → safe (ModelAnd model text) found.text) where
    some_both : (content : Content) → Fits (files.ModelAnd limit) content → IsOpened content → SomeOutcome (on_both each content)
    unfolding Fits
    some_both Nothing fits opened = absurd fits
    some_both (Bytes bytes) fits opened = absurd fits
    some_both (Model model) fits opened = absurd fits
    some_both (ModelAnd model text) fits opened = some model opened.0 opened.1 text

    once_both : (content : Content) → IsOpened content → (one other : Outcome) → on_both each content one → on_both each content other → same one other
    once_both Nothing opened one other h k = absurd h
    once_both (Bytes bytes) opened one other h k = absurd h
    once_both (Model model) opened one other h k = absurd h
    once_both (ModelAnd model text) opened one other h k = once model opened.0 opened.1 text one other h k

    own_both : (content : Content) (found : Outcome) → on_both each content found → MayEnd content (files.ModelAnd limit) found
    own_both Nothing found is = absurd is
    own_both (Bytes bytes) found is = absurd is
    own_both (Model model) found is = absurd is
    own_both (ModelAnd model text) found is = own model text found is

    none_both : (content : Content) → Fits (files.ModelAnd limit) content → (steps : ℕ) → takes content steps steps
    unfolding Fits
    none_both Nothing fits steps = absurd fits
    none_both (Bytes bytes) fits steps = absurd fits
    none_both (Model model) fits steps = absurd fits
    none_both (ModelAnd model text) fits steps = none model text steps

    holds_both : (content : Content) → IsOpened content → (found : Outcome) → on_both each content found → found.status ≡ DONE → safe content found.text
    holds_both Nothing opened found is done = absurd is
    holds_both (Bytes bytes) opened found is done = absurd is
    holds_both (Model model) opened found is done = absurd is
    holds_both (ModelAnd model text) opened found is done = holds model opened.0 text found is done

    pub both_well : IsMeantWell (files.ModelAnd limit) (record { comes_to = on_both each; takes = takes; safe = safe; same = same }) limited
    both_well = record { some = λ content fits opened few. some_both content fits opened; once = once_both; equally = equally; ends = own_both; no_steps = none_both; holds = holds_both }

  -- the bytes of a file that holds no valid model, or a valid model and a second file
  module _ (limit : ℕ) (first : List ℕ → Outcome → Type 0) (each : SystemModel → (second : List ℕ) → Outcome → Type 0) (some_first : (bytes : List ℕ) → SomeOutcome (first bytes))
      (some : (model : SystemModel) → IsValid model → AreNamed model → (text : List ℕ) → SomeOutcome (each model text))
      (once_first : (bytes : List ℕ) (one other : Outcome) → first bytes one → first bytes other → same one other)
      (once : (model : SystemModel) → IsValid model → AreNamed model → (text : List ℕ) (one other : Outcome) → each model text one → each model text other → same one other)
      (own_first : (bytes : List ℕ) (found : Outcome) → first bytes found → MayEnd (Bytes bytes) (files.ContentAnd limit) found)
      (own : (model : SystemModel) (text : List ℕ) (found : Outcome) → each model text found → MayEnd (ModelAnd model text) (files.ContentAnd limit) found)
      (none_first : (bytes : List ℕ) (steps : ℕ) → takes (Bytes bytes) steps steps) (none : (model : SystemModel) (text : List ℕ) (steps : ℕ) → takes (ModelAnd model text) steps steps)
      (holds_first : (bytes : List ℕ) (found : Outcome) → first bytes found → found.status ≡ DONE → safe (Bytes bytes) found.text)
      (holds : (model : SystemModel) → IsValid model → (text : List ℕ) (found : Outcome) → each model text found → found.status ≡ DONE → safe (ModelAnd model text) found.text) where
    abbrev comes_either : Content → Outcome → Type 0
    comes_either = of_either first each (λ found. ⊥)

    some_either : (content : Content) → Fits (files.ContentAnd limit) content → IsOpened content → SomeOutcome (comes_either content)
    unfolding Fits
    some_either Nothing fits opened = absurd fits
    some_either (Bytes bytes) fits opened = some_first bytes
    some_either (Model model) fits opened = absurd fits
    some_either (ModelAnd model text) fits opened = some model opened.0 opened.1 text

    once_either : (content : Content) → IsOpened content → (one other : Outcome) → comes_either content one → comes_either content other → same one other
    once_either Nothing opened one other h k = absurd h
    once_either (Bytes bytes) opened one other h k = once_first bytes one other h k
    once_either (Model model) opened one other h k = absurd h
    once_either (ModelAnd model text) opened one other h k = once model opened.0 opened.1 text one other h k

    own_either : (content : Content) (found : Outcome) → comes_either content found → MayEnd content (files.ContentAnd limit) found
    own_either Nothing found is = absurd is
    own_either (Bytes bytes) found is = own_first bytes found is
    own_either (Model model) found is = absurd is
    own_either (ModelAnd model text) found is = own model text found is

    none_either : (content : Content) → Fits (files.ContentAnd limit) content → (steps : ℕ) → takes content steps steps
    unfolding Fits
    none_either Nothing fits steps = absurd fits
    none_either (Bytes bytes) fits steps = none_first bytes steps
    none_either (Model model) fits steps = absurd fits
    none_either (ModelAnd model text) fits steps = none model text steps

    holds_either : (content : Content) → IsOpened content → (found : Outcome) → comes_either content found → found.status ≡ DONE → safe content found.text
    holds_either Nothing opened found is done = absurd is
    holds_either (Bytes bytes) opened found is done = holds_first bytes found is done
    holds_either (Model model) opened found is done = absurd is
    holds_either (ModelAnd model text) opened found is done = holds model opened.0 text found is done

    pub either_well : IsMeantWell (files.ContentAnd limit) (record { comes_to = comes_either; takes = takes; safe = safe; same = same }) limited
    either_well = record { some = λ content fits opened few. some_either content fits opened; once = once_either; equally = equally; ends = own_either; no_steps = none_either; holds = holds_either }
