-- The outcome of a command: its status and its text.
use Rattle.std.specs.Prelude.{◌≡◌, ◌⊎◌, ℕ, ◌<◌, List, length, ◌++◌, codes, decimal, Option, Some, None, Result, Ok, Err}
use Rattle.cl_text.specs.Line.{line}
use Rattle.cl_model.specs.{declared.{model.SystemModel.SystemModel, refusal.Refusal.Refusal}, Reading.model_of, Refusal.refusal_text, Validity.refusal_of}
use Rattle.cl_engine.specs.{declared.{files.{Files.Files, TheConstants.FILE_LIMIT}, outcome.Outcome.Outcome, status.TheConstants.{WORDS_REFUSED, READ_FAULT, LONG_FILE, MODEL_REFUSED}}, Content.{Content, Nothing, Bytes as Whole, Model, ModelAnd}, Fetched.{Fetched, Unasked, Bytes, Fault}}
use Rattle.cl_engine.specs.{Fetched.TooLong, Files.{File, model_file, second_file}, Language.{Language, IsOfContent}}
use Rattle.cl_engine.specs.declared.files.Files.TheVariants as files

-- ---- outcomes that any command may come to

abbrev pub words_refused : Outcome
words_refused = record { status = WORDS_REFUSED; text = line (codes "words refused") }

abbrev pub read_fault : (place : ℕ) → Outcome
read_fault place = record { status = READ_FAULT; text = line (codes "read fault " ++ decimal place) }

abbrev pub long_file : (place : ℕ) → Outcome
long_file place = record { status = LONG_FILE; text = line (codes "long file " ++ decimal place) }

-- the line of a refusal of a model, of every command
abbrev pub refusal_line : Refusal → List ℕ
refusal_line refusal = line (codes "model refused " ++ refusal_text refusal)

abbrev pub model_refused : Refusal → Outcome
model_refused refusal = record { status = MODEL_REFUSED; text = refusal_line refusal }

-- ---- the outcomes of a command's own

-- a second file of more bytes than a model file may have
abbrev pub IsOverlong : (text : List ℕ) → Outcome → Type 0
IsOverlong text found = (FILE_LIMIT < length text) × (found ≡ long_file 2)

-- A command that is given this may come to this outcome: of a status of its own; of the refusal of a model only where it
-- is given the bytes; and of a second file that is too long for it only beside a model that may be refused.
abbrev pub MayEnd : Content → Files → Outcome → Type 0
MayEnd (Whole bytes) named found = IsOfContent found.status ⊎ (found.status ≡ MODEL_REFUSED)
MayEnd (ModelAnd model text) (files.ContentAnd limit) found = IsOfContent found.status ⊎ IsOverlong text found
MayEnd content named found = IsOfContent found.status

-- ---- the opening of a file

-- A file is a fault of reading, or too long, or its bytes, to which the outcome of what comes next belongs. There is no
-- outcome without a file that is needed.
abbrev pub OpensTo : (place : ℕ) → Fetched → (next : List ℕ → Outcome → Type 0) → Outcome → Type 0
OpensTo place Unasked next found = ⊥
OpensTo place Fault next found = found ≡ read_fault place
OpensTo place TooLong next found = found ≡ long_file place
OpensTo place (Bytes bytes) next found = next bytes found

abbrev pub OpensFile : File → (gave : File → Fetched) → (next : List ℕ → Outcome → Type 0) → Outcome → Type 0
OpensFile file gave next found = OpensTo file.place (gave file) next found

-- ---- the opening of a model

-- A model is refused by its first refusal, or is valid, and the outcome is that of a refusal, or of what comes next.
abbrev pub ValidatesEither : SystemModel → Option Refusal → (refused : Refusal → Outcome → Type 0) (next : SystemModel → Outcome → Type 0) → Outcome → Type 0
ValidatesEither model None refused next found = next model found
ValidatesEither model (Some refusal) refused next found = refused refusal found

-- Bytes are refused by the reading, or are a model.
abbrev pub ReadsEither : Result SystemModel Refusal → (refused : Refusal → Outcome → Type 0) (next : SystemModel → Outcome → Type 0) → Outcome → Type 0
ReadsEither (Ok model) refused next found = ValidatesEither model (refusal_of model) refused next found
ReadsEither (Err refusal) refused next found = refused refusal found

-- Mostly a refusal is the outcome.
abbrev pub IsOfRefusal : Refusal → Outcome → Type 0
IsOfRefusal refusal found = found ≡ model_refused refusal

abbrev pub ValidatesTo : SystemModel → Option Refusal → (next : SystemModel → Outcome → Type 0) → Outcome → Type 0
ValidatesTo model refusal next found = ValidatesEither model refusal IsOfRefusal next found

abbrev pub ReadsTo : Result SystemModel Refusal → (next : SystemModel → Outcome → Type 0) → Outcome → Type 0
ReadsTo read next found = ReadsEither read IsOfRefusal next found

abbrev pub OpensModel : (gave : File → Fetched) → (next : SystemModel → Outcome → Type 0) → Outcome → Type 0
OpensModel gave next found = OpensFile model_file gave (λ bytes. ReadsTo (model_of bytes) next) found

-- The second file is opened beside the model of the first, and both come to what is next.
abbrev pub OpensSecond : (limit : ℕ) (gave : File → Fetched) (next : Content → Outcome → Type 0) → SystemModel → Outcome → Type 0
OpensSecond limit gave next model found = OpensFile (second_file limit) gave (λ text. next (ModelAnd model text)) found

-- The first file is opened, and beside its model the second, or the outcome is that of its bytes and their refusal.
abbrev pub OpensBoth : (limit : ℕ) (gave : File → Fetched) (refused : (bytes : List ℕ) → Refusal → Outcome → Type 0) (next : Content → Outcome → Type 0) → Outcome → Type 0
OpensBoth limit gave refused next found =
    OpensFile model_file gave (λ bytes. ReadsEither (model_of bytes) (refused bytes) (OpensSecond limit gave next)) found

-- ---- the outcome of a command

-- The files are opened in turn, and what they hold comes to what is next.
abbrev pub Opens : Files → (gave : File → Fetched) → (next : Content → Outcome → Type 0) → Outcome → Type 0
Opens files.Nothing gave next found = next Nothing found
Opens files.Content gave next found = OpensFile model_file gave (λ bytes. next (Whole bytes)) found
Opens files.Model gave next found = OpensModel gave (λ model. next (Model model)) found
Opens (files.ModelAnd limit) gave next found = OpensBoth limit gave (λ bytes. IsOfRefusal) next found
Opens (files.ContentAnd limit) gave next found = OpensBoth limit gave (λ bytes refusal. next (Whole bytes)) next found

-- Words that are this command have this outcome, where each file gave this.
abbrev pub HasOutcome : {C : Type 0} → Language C → Option C → (gave : File → Fetched) → Outcome → Type 0
HasOutcome language None gave found = found ≡ words_refused
HasOutcome language (Some asked) gave found = Opens (language.files asked) gave (language.comes_to asked) found
