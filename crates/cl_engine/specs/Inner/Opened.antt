-- What the opening of a command's files gives: what they hold, or the outcome that stands in the place of what comes next.
use Rattle.std.specs.Prelude.{◌≡◌, ◌≢◌, ℕ, List, Option, Some, None, Result, Ok, Err}
use Rattle.cl_io.specs.Names.{SameAtEach}
use Rattle.cl_model.specs.{declared.{model.SystemModel.SystemModel, refusal.Refusal.Refusal}, Reading.model_of, Validity.refusal_of}
use Rattle.cl_engine.specs.{declared.{files.{Files.Files, TheConstants.FILE_LIMIT}, outcome.Outcome.Outcome, opening.{FileFetch.FileFetch, OpenedModel.OpenedModel, Opened.Opened}}, Calls.{ShelfCall, StaysAt}, Content.{Content, Nothing, Bytes as Whole, Model, ModelAnd, content_of}}
use Rattle.cl_engine.specs.{Content.{MeansModel, MeansNone}, Fetched.{Fetched, Bytes, MayGive, EachFile, FileGave, WaitsForModel}, Files.{File, model_file, second_file, files_named, word}, Outcome.{OpensTo, Opens}}
use Rattle.cl_engine.specs.declared.files.Files.TheVariants as files
use Rattle.cl_engine.specs.declared.opening.FileFetch.TheVariants as fetch
use Rattle.cl_engine.specs.declared.opening.OpenedModel.TheVariants as model_opened
use Rattle.cl_engine.specs.declared.opening.Opened.TheVariants as opened

-- nothing comes next
abbrev pub NoNext : {X : Type 0} → X → Outcome → Type 0
NoNext content found = ⊥

-- ---- a file

-- the fetch of the file of this place gave these bytes, or stops the command with this outcome
abbrev pub IsFetchedAs : (place : ℕ) → Fetched → FileFetch → Type 0
IsFetchedAs place fetched (fetch.Bytes bytes) = fetched ≡ Bytes bytes.items
IsFetchedAs place fetched (fetch.Stopped found) = OpensTo place fetched NoNext found

-- what the fetch of the file of this name and this place gave, of at most so many bytes
pub record HasFetched (shelf : ShelfCall) (name : List ℕ) (place limit : ℕ) (gives : FileFetch) : Type 0 where
  pub fetched : Fetched
  pub may : MayGive shelf name limit fetched
  pub is : IsFetchedAs place fetched gives

-- ---- a model

-- the model of these bytes, whose first refusal this is, is this valid one, or is refused with this
abbrev pub IsValidatedAs : (bytes : List ℕ) → SystemModel → Option Refusal → OpenedModel → Type 0
IsValidatedAs bytes model refusal (model_opened.Valid valid) = (valid ≡ model) × (refusal ≡ None)
IsValidatedAs bytes model refusal (model_opened.Refused own why) = (own.items ≡ bytes) × (refusal ≡ Some why)
IsValidatedAs bytes model refusal (model_opened.Stopped found) = ⊥

-- what was read of these bytes is this valid model, or is refused with this
abbrev pub IsReadAs : (bytes : List ℕ) → Result SystemModel Refusal → OpenedModel → Type 0
IsReadAs bytes (Ok model) opened = IsValidatedAs bytes model (refusal_of model) opened
IsReadAs bytes (Err refusal) (model_opened.Valid valid) = ⊥
IsReadAs bytes (Err refusal) (model_opened.Refused own why) = (own.items ≡ bytes) × (why ≡ refusal)
IsReadAs bytes (Err refusal) (model_opened.Stopped found) = ⊥

-- what the fetch of a model file gave is this valid model, is refused with this, or stops the command with this outcome
abbrev pub IsOpenedAs : Fetched → OpenedModel → Type 0
IsOpenedAs (Bytes bytes) opened = IsReadAs bytes (model_of bytes) opened
IsOpenedAs fetched (model_opened.Valid valid) = ⊥
IsOpenedAs fetched (model_opened.Refused own why) = ⊥
IsOpenedAs fetched (model_opened.Stopped found) = OpensTo 1 fetched NoNext found

-- what the opening of the model file of this name gave
pub record HasOpened (shelf : ShelfCall) (name : List ℕ) (opened : OpenedModel) : Type 0 where
  pub fetch : Fetched
  pub may : MayGive shelf name FILE_LIMIT fetch
  pub is : IsOpenedAs fetch opened

-- ---- a model and a second file

-- what the second file of this model is opened as: its bytes beside the model, or an outcome
abbrev pub IsSecondAs : SystemModel → Fetched → Opened → Type 0
IsSecondAs model fetch (opened.Held given) = (text : List ℕ) × (content_of given ≡ ModelAnd model text) × (fetch ≡ Bytes text)
IsSecondAs model fetch (opened.Stopped found) = OpensTo 2 fetch NoNext found

-- what the opening of the second file gave, of at most so many bytes
pub record HasOpenedSecond (shelf : ShelfCall) (name : List ℕ) (limit : ℕ) (model : SystemModel) (opened : Opened) : Type 0 where
  pub fetch : Fetched
  pub may : MayGive shelf name limit fetch
  pub is : IsSecondAs model fetch opened

-- ---- the files of a command

-- the fetch of a model file gave bytes that mean this model
abbrev pub GivesModel : Fetched → SystemModel → Type 0
GivesModel fetched model = (bytes : List ℕ) × (fetched ≡ Bytes bytes) × MeansModel bytes model

-- it gave these bytes, which mean no such model
abbrev pub GivesNone : Fetched → (bytes : List ℕ) → Type 0
GivesNone fetched bytes = (fetched ≡ Bytes bytes) × MeansNone bytes

-- the files gave this content
abbrev pub GivesContent : Files → (gave : File → Fetched) → Content → Type 0
GivesContent files.Nothing gave Nothing = Unit {0}
GivesContent files.Content gave (Whole bytes) = gave model_file ≡ Bytes bytes
GivesContent files.Model gave (Model model) = GivesModel (gave model_file) model
GivesContent (files.ModelAnd limit) gave (ModelAnd model text) = GivesModel (gave model_file) model × (gave (second_file limit) ≡ Bytes text)
GivesContent (files.ContentAnd limit) gave (Whole bytes) = GivesNone (gave model_file) bytes
GivesContent (files.ContentAnd limit) gave (ModelAnd model text) = GivesModel (gave model_file) model × (gave (second_file limit) ≡ Bytes text)
GivesContent named gave content = ⊥

-- what the files gave is opened as this: what they hold, or an outcome
abbrev pub AreOpenedAs : Files → (gave : File → Fetched) → Opened → Type 0
AreOpenedAs named gave (opened.Held given) = GivesContent named gave (content_of given)
AreOpenedAs named gave (opened.Stopped found) = Opens named gave NoNext found

-- What the opening of a command's files gave. The second is fetched only where the first is accepted.
pub record HaveOpened (named : Files) (words : List (List ℕ)) (shelf : ShelfCall) (opened : Opened) : Type 0 where
  pub gave : File → Fetched
  pub may : EachFile (files_named named) (FileGave words shelf gave)
  pub waits : WaitsForModel (files_named named) words shelf gave
  pub are : AreOpenedAs named gave opened

-- What the shelf holds is as it was, and so are both numbers of every name that isn't one of a file.
pub record LeavesOthers (files : List File) (words : List (List ℕ)) (shelf : ShelfCall) : Type 0 where
  pub same : SameAtEach shelf.held shelf.held_after
  pub others : (name : List ℕ) → EachFile files (λ file. name ≢ word words file.place) → StaysAt shelf name
