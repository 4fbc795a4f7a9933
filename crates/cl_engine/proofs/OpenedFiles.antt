-- What the opening of each kind of files gives, and leaves.
use Rattle.std.proofs.Common.{◌≡◌, ℕ, List, [], ◌∷◌, Vec, cond, nat_eq, refl, sym, subst, arith}
use Rattle.std.specs.declared.alloc.Global.{Global}
use Rattle.cl_model.specs.{declared.{model.SystemModel.SystemModel, refusal.Refusal.Refusal}, Reading.model_of}
use Rattle.cl_engine.specs.{declared.{files.{Files.Files, TheConstants.FILE_LIMIT}, given.Given.Given, outcome.Outcome.Outcome, opening.{FileFetch.FileFetch, OpenedModel.OpenedModel, Opened.Opened}}, Calls.{ShelfCall, FetchesAlone}, Content.{Content, Bytes as Whole, Model, content_of}}
use Rattle.cl_engine.specs.{Content.Fits, Fetched.{Fetched, Unasked, Bytes, Fault, TooLong, MayGive, EachFile, FileGave, NoneAfter, WaitsForModel}, Files.{File, model_file, second_file, word}, Inner.Opened.{NoNext, HasFetched, IsFetchedAs, IsOpenedAs, IsSecondAs, HasOpened}}
use Rattle.cl_engine.specs.{Inner.Opened.{HasOpenedSecond, GivesModel, GivesContent, AreOpenedAs, HaveOpened, LeavesOthers}, Outcome.{model_refused, IsOfRefusal, ReadsEither, ReadsTo, OpensTo, OpensSecond}}
use Rattle.cl_engine.specs.declared.files.Files.TheVariants as files
use Rattle.cl_engine.specs.declared.given.Given.TheVariants as held
use Rattle.cl_engine.specs.declared.opening.FileFetch.TheVariants as fetch
use Rattle.cl_engine.specs.declared.opening.OpenedModel.TheVariants as model_opened
use Rattle.cl_engine.specs.declared.opening.Opened.TheVariants as opened
use Rattle.cl_engine.proofs.{Openings.{gives_fit, gives_model, gives_accepted, gives_none, model_refuses, model_stops, model_more, next_model}, TwoCalls.{Follows, through, fetches_two, first_may, second_may}}

-- ---- what is left

module _ (words : List (List ℕ)) where
  -- one of two
  pub first_fetched : (shelf : ShelfCall) (limit : ℕ) → FetchesAlone shelf (word words 1) → LeavesOthers (model_file ∷ second_file limit ∷ []) words shelf
  first_fetched shelf limit alone = record {
    same = alone.same;
    others = λ name beside. record { faults = alone.faults.others name beside.0; longest = alone.longest.others name beside.0 };
  }

  -- two
  pub both_fetched : (one two : ShelfCall) (limit : ℕ) → Follows one two → FetchesAlone one (word words 1) → FetchesAlone two (word words 2)
      → LeavesOthers (model_file ∷ second_file limit ∷ []) words (through one two)
  both_fetched one two limit joins alone later =
      let leaves = fetches_two one two joins (word words 1) (word words 2) alone later in
      record { same = leaves.same; others = λ name beside. leaves.others name beside.0 beside.1.0 }

-- ---- a file

-- the bytes of a model file are opened
pub model_fetched : (shelf : ShelfCall) (name : List ℕ) (gives : FileFetch) → HasFetched shelf name 1 FILE_LIMIT gives → (bytes : Vec ℕ Global) → gives ≡ fetch.Bytes bytes
    → (opens : OpenedModel) → IsOpenedAs (Bytes bytes.items) opens → HasOpened shelf name opens
model_fetched shelf name gives has bytes is opens opened = record {
  fetch = has.fetched;
  may = has.may;
  is = subst (λ (f : Fetched). IsOpenedAs f opens) (sym (subst (IsFetchedAs 1 has.fetched) is has.is)) opened;
}

-- or there is an outcome in their place
unfetched : (fetched : Fetched) (found : Outcome) → IsFetchedAs 1 fetched (fetch.Stopped found) → IsOpenedAs fetched (model_opened.Stopped found)
unfetched Unasked found is = is
unfetched Fault found is = is
unfetched TooLong found is = is
unfetched (Bytes bytes) found is = absurd is

pub model_unfetched : (shelf : ShelfCall) (name : List ℕ) (gives : FileFetch) → HasFetched shelf name 1 FILE_LIMIT gives → (found : Outcome) → gives ≡ fetch.Stopped found
    → HasOpened shelf name (model_opened.Stopped found)
model_unfetched shelf name gives has found is = record {
  fetch = has.fetched;
  may = has.may;
  is = unfetched has.fetched found (subst (IsFetchedAs 1 has.fetched) is has.is);
}

-- the second file is opened beside a model
module _ (shelf : ShelfCall) (name : List ℕ) (limit : ℕ) (model : SystemModel) (gives : FileFetch) (has : HasFetched shelf name 2 limit gives) where
  second_gives : (opens : Opened) → IsSecondAs model has.fetched opens → HasOpenedSecond shelf name limit model opens
  second_gives opens is = record { fetch = has.fetched; may = has.may; is = is }

  pub second_held : (text : Vec ℕ Global) → gives ≡ fetch.Bytes text → HasOpenedSecond shelf name limit model (opened.Held (held.ModelAnd model text))
  second_held text is = second_gives (opened.Held (held.ModelAnd model text)) (text.items, refl, subst (IsFetchedAs 2 has.fetched) is has.is)

  pub second_stops : (found : Outcome) → gives ≡ fetch.Stopped found → HasOpenedSecond shelf name limit model (opened.Stopped found)
  second_stops found is = second_gives (opened.Stopped found) (subst (IsFetchedAs 2 has.fetched) is has.is)

-- ---- what is given

module _ (words : List (List ℕ)) (shelf : ShelfCall) where
  none_after_one : NoneAfter (model_file ∷ []) words shelf 1
  none_after_one = (λ less. absurd (omega (arith, less)), tt)

  -- no file
  pub nothing_opened : HaveOpened files.Nothing words shelf (opened.Held held.Nothing)
  nothing_opened = record { gave = λ _. Unasked; may = tt; waits = λ _. tt; are = tt }

  pub nothing_of : (named : Files) → named ≡ files.Nothing → HaveOpened named words shelf (opened.Held held.Nothing)
  nothing_of named is = subst (λ (n : Files). HaveOpened n words shelf (opened.Held held.Nothing)) (sym is) nothing_opened

  -- the bytes of a file
  module _ (gives : FileFetch) (has : HasFetched shelf (word words 1) 1 FILE_LIMIT gives) where
    content_gives : (opens : Opened) → AreOpenedAs files.Content (λ _. has.fetched) opens → HaveOpened files.Content words shelf opens
    content_gives opens are = record { gave = λ _. has.fetched; may = (has.may, tt); waits = λ _. none_after_one; are = are }

    pub content_opened : (bytes : Vec ℕ Global) → gives ≡ fetch.Bytes bytes → HaveOpened files.Content words shelf (opened.Held (held.Content bytes))
    content_opened bytes is = content_gives (opened.Held (held.Content bytes)) (subst (IsFetchedAs 1 has.fetched) is has.is)

    pub content_stops : (found : Outcome) → gives ≡ fetch.Stopped found → HaveOpened files.Content words shelf (opened.Stopped found)
    content_stops found is = content_gives (opened.Stopped found) (subst (IsFetchedAs 1 has.fetched) is has.is)

  -- the model of a file
  module _ (gives : OpenedModel) (has : HasOpened shelf (word words 1) gives) where
    model_gives : (opens : Opened) → AreOpenedAs files.Model (λ _. has.fetch) opens → HaveOpened files.Model words shelf opens
    model_gives opens are = record { gave = λ _. has.fetch; may = (has.may, tt); waits = λ _. none_after_one; are = are }

    pub model_opens : (model : SystemModel) → gives ≡ model_opened.Valid model → HaveOpened files.Model words shelf (opened.Held (held.Model model))
    model_opens model is = model_gives (opened.Held (held.Model model)) (gives_model has.fetch model (subst (IsOpenedAs has.fetch) is has.is))

    pub model_none : (bytes : Vec ℕ Global) (refusal : Refusal) (found : Outcome) → gives ≡ model_opened.Refused bytes refusal → found ≡ model_refused refusal
        → HaveOpened files.Model words shelf (opened.Stopped found)
    model_none bytes refusal found is refused = model_gives (opened.Stopped found) (model_refuses bytes refusal found refused NoNext has.fetch (subst (IsOpenedAs has.fetch) is has.is))

    pub model_unread : (found : Outcome) → gives ≡ model_opened.Stopped found → HaveOpened files.Model words shelf (opened.Stopped found)
    model_unread found is = model_gives (opened.Stopped found) (model_stops has.fetch found (λ bytes. ReadsTo (model_of bytes) NoNext) (subst (IsOpenedAs has.fetch) is has.is))

-- a model file that was opened gave its model
pub has_model : (shelf : ShelfCall) (name : List ℕ) (gives : OpenedModel) → (has : HasOpened shelf name gives) → (model : SystemModel) → gives ≡ model_opened.Valid model
    → GivesModel has.fetch model
has_model shelf name gives has model is = gives_model has.fetch model (subst (IsOpenedAs has.fetch) is has.is)

-- so did one that was opened alone
module _ (words : List (List ℕ)) (shelf : ShelfCall) (opens : Opened) (has : HaveOpened files.Model words shelf opens) (given : Given) (is : opens ≡ opened.Held given) where
  alone_content : GivesContent files.Model has.gave (content_of given)
  alone_content = subst (AreOpenedAs files.Model has.gave) is has.are

  pub alone_fits : Fits files.Model (content_of given)
  alone_fits = gives_fit files.Model has.gave (content_of given) alone_content

  pub alone_model : (model : SystemModel) → content_of given ≡ Model model → GivesModel (has.gave model_file) model
  alone_model model same = subst (GivesContent files.Model has.gave) same alone_content

-- what two fetches gave: that of the first file, and that of the second
abbrev both : (first second : Fetched) → File → Fetched
both first second file = cond (nat_eq file.place 1) first second

module _ (words : List (List ℕ)) (limit : ℕ) where
  -- the model is opened, and then the second file
  module _ (one two : ShelfCall) (joins : Follows one two) (alone : FetchesAlone one (word words 1)) (later : FetchesAlone two (word words 2))
      (first : Fetched) (first_gave : MayGive one (word words 1) FILE_LIMIT first) (model : SystemModel) (gives : GivesModel first model)
      (opens : Opened) (second : HasOpenedSecond two (word words 2) limit model opens) where
    both_may : EachFile (model_file ∷ second_file limit ∷ []) (FileGave words (through one two) (both first second.fetch))
    both_may = (
      first_may one two joins (word words 1) (word words 2) alone later FILE_LIMIT first first_gave,
      (second_may one two joins (word words 1) (word words 2) alone later limit second.fetch second.may, tt),
    )

    both_waits : WaitsForModel (model_file ∷ second_file limit ∷ []) words (through one two) (both first second.fetch)
    both_waits = λ refused. absurd (refused (gives_accepted first model gives))

    -- beside a model that has to be valid
    pub both_open : HaveOpened (files.ModelAnd limit) words (through one two) opens
    both_open = record { gave = both first second.fetch; may = both_may; waits = both_waits; are = by_second opens second.is }
      where
        by_second : (found : Opened) → IsSecondAs model second.fetch found → AreOpenedAs (files.ModelAnd limit) (both first second.fetch) found
        by_second (opened.Held given) (text, is, gave) =
            subst (λ (content : Content). GivesContent (files.ModelAnd limit) (both first second.fetch) content) (sym is) (gives, gave)
        by_second (opened.Stopped found) is = next_model found first model (λ bytes. IsOfRefusal) (λ m. OpensTo 2 second.fetch NoNext) gives is

    -- beside a model that may be refused
    pub either_open : HaveOpened (files.ContentAnd limit) words (through one two) opens
    either_open = record { gave = both first second.fetch; may = both_may; waits = both_waits; are = by_second opens second.is }
      where
        by_second : (found : Opened) → IsSecondAs model second.fetch found → AreOpenedAs (files.ContentAnd limit) (both first second.fetch) found
        by_second (opened.Held given) (text, is, gave) =
            subst (λ (content : Content). GivesContent (files.ContentAnd limit) (both first second.fetch) content) (sym is) (gives, gave)
        by_second (opened.Stopped found) is =
            next_model found first model (λ bytes refusal. NoNext (Whole bytes)) (λ m. OpensTo 2 second.fetch NoNext) gives is

  -- the first file alone is fetched
  module _ (shelf : ShelfCall) (alone : FetchesAlone shelf (word words 1)) (first : Fetched) (first_gave : MayGive shelf (word words 1) FILE_LIMIT first) where
    first_waits : WaitsForModel (model_file ∷ second_file limit ∷ []) words shelf (both first Unasked)
    first_waits = λ refused. (
      λ less. absurd (omega (arith, less)),
      (λ less apart. record { faults = alone.faults.others (word words 2) apart; longest = alone.longest.others (word words 2) apart }, tt),
    )

  -- a model that has to be valid
  pub first_stops : (shelf : ShelfCall) → FetchesAlone shelf (word words 1) → (opens : Opened) → HaveOpened files.Model words shelf opens → (found : Outcome) → opens ≡ opened.Stopped found
      → HaveOpened (files.ModelAnd limit) words shelf (opened.Stopped found)
  first_stops shelf alone opens has found is = record {
    gave = both (has.gave model_file) Unasked;
    may = (has.may.0, (tt, tt));
    waits = first_waits shelf alone (has.gave model_file) has.may.0;
    are = model_more found has.gave (λ bytes. IsOfRefusal) (λ bytes. IsOfRefusal) (λ bytes refusal same. same)
        (λ model. NoNext (Model model)) (OpensSecond limit (both (has.gave model_file) Unasked) NoNext) (λ model none. absurd none)
        (subst (AreOpenedAs files.Model has.gave) is has.are);
  }

  -- a model that may be refused
  module _ (shelf : ShelfCall) (alone : FetchesAlone shelf (word words 1)) (gives : OpenedModel) (has : HasOpened shelf (word words 1) gives) where
    either_gives : (opens : Opened) → AreOpenedAs (files.ContentAnd limit) (both has.fetch Unasked) opens → HaveOpened (files.ContentAnd limit) words shelf opens
    either_gives opens are = record { gave = both has.fetch Unasked; may = (has.may, (tt, tt)); waits = first_waits shelf alone has.fetch has.may; are = are }

    pub either_refused : (bytes : Vec ℕ Global) (refusal : Refusal) → gives ≡ model_opened.Refused bytes refusal
        → HaveOpened (files.ContentAnd limit) words shelf (opened.Held (held.Content bytes))
    either_refused bytes refusal is = either_gives (opened.Held (held.Content bytes)) (gives_none bytes refusal has.fetch (subst (IsOpenedAs has.fetch) is has.is))

    pub either_stops : (found : Outcome) → gives ≡ model_opened.Stopped found → HaveOpened (files.ContentAnd limit) words shelf (opened.Stopped found)
    either_stops found is =
        either_gives (opened.Stopped found)
        (model_stops has.fetch found (λ bytes. ReadsEither (model_of bytes) (λ refusal. NoNext (Whole bytes)) (λ m. OpensTo 2 Unasked NoNext)) (subst (IsOpenedAs has.fetch) is has.is))
