-- What the files of a command hold, once they are open.
use Rattle.std.specs.Prelude.{◌≡◌, ℕ, List, None, Ok}
use Rattle.cl_model.specs.{declared.model.SystemModel.SystemModel, Reading.model_of, Validity.refusal_of}
use Rattle.cl_engine.specs.declared.{files.Files.Files, given.Given.Given}
use Rattle.cl_engine.specs.declared.files.Files.TheVariants as files
use Rattle.cl_engine.specs.declared.given.Given.TheVariants as given

-- what the files of a command hold
pub data Content : Type 0 where
  -- there are none
  Nothing : Content
  -- the bytes of a file, whatever they are
  Bytes : (bytes : List ℕ) → Content
  -- a model file: its valid model
  Model : (model : SystemModel) → Content
  -- a model file and a second one: the valid model of the first, and the bytes of the second
  ModelAnd : (model : SystemModel) (text : List ℕ) → Content

-- what was opened, without where its bytes lie in memory
abbrev pub content_of : Given → Content
content_of given.Nothing = Nothing
content_of (given.Content bytes) = Bytes bytes.items
content_of (given.Model model) = Model model
content_of (given.ModelAnd model text) = ModelAnd model text.items

-- a command with these files can be given this
unfoldable pub Fits : Files → Content → Type 0
Fits files.Nothing Nothing = Unit {0}
Fits files.Content (Bytes bytes) = Unit {0}
Fits files.Model (Model model) = Unit {0}
Fits (files.ModelAnd limit) (ModelAnd model text) = Unit {0}
Fits (files.ContentAnd limit) (Bytes bytes) = Unit {0}
Fits (files.ContentAnd limit) (ModelAnd model text) = Unit {0}
Fits named content = ⊥

-- the bytes are those of an accepted model file: they mean this model, which nothing refuses
pub record MeansModel (bytes : List ℕ) (model : SystemModel) : Type 0 where
  pub means : model_of bytes ≡ Ok model
  pub unrefused : refusal_of model ≡ None

-- the bytes are those of no accepted model file
abbrev pub MeansNone : (bytes : List ℕ) → Type 0
MeansNone bytes = (model : SystemModel) → ¬ MeansModel bytes model

-- files of these bytes, each under its place, hold this
abbrev pub Means : Files → (contents : ℕ → List ℕ) → Content → Type 0
Means files.Nothing contents Nothing = Unit {0}
Means files.Content contents (Bytes bytes) = bytes ≡ contents 1
Means files.Model contents (Model model) = MeansModel (contents 1) model
Means (files.ModelAnd limit) contents (ModelAnd model text) = MeansModel (contents 1) model × (text ≡ contents 2)
Means (files.ContentAnd limit) contents (Bytes bytes) = (bytes ≡ contents 1) × MeansNone bytes
Means (files.ContentAnd limit) contents (ModelAnd model text) = MeansModel (contents 1) model × (text ≡ contents 2)
Means named contents content = ⊥

-- ---- what is said of a content of one kind

-- of no file
abbrev pub of_nothing : {X : Type 1} → (none other : X) → Content → X
of_nothing none other Nothing = none
of_nothing none other content = other

-- of the bytes of a file
abbrev pub of_bytes : {X : Type 1} → (each : List ℕ → X) → (other : X) → Content → X
of_bytes each other (Bytes bytes) = each bytes
of_bytes each other content = other

-- of the model of a file
abbrev pub of_model : {X : Type 1} → (each : SystemModel → X) → (other : X) → Content → X
of_model each other (Model model) = each model
of_model each other content = other

-- of the model of a file and the bytes of a second one
abbrev pub of_both : {X : Type 1} → (each : SystemModel → List ℕ → X) → (other : X) → Content → X
of_both each other (ModelAnd model text) = each model text
of_both each other content = other
