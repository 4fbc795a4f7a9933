-- How a call of the top function ends.
use Rattle.std.specs.Prelude.{◌≡◌, ◌⊎◌, ℕ, ◌<◌, List, [], length, take, Option, IsTrue}
use Rattle.cl_io.specs.{Counts.counted, Shelf.Held, Sink.appended}
use Rattle.cl_engine.specs.{declared.{outcome.Outcome.Outcome, status.TheConstants.{WRITE_FAULT, NO_MEMORY}}, Calls.{ShelfCall, SinkCall}, Fetched.{Fetched, EachFile, SomeFile, FileGave, FileRose, TellsFiles, told_fetch, NoneAfter, WaitsForModel}, Files.File, Language.Language}
use Rattle.cl_engine.specs.{Language.{files_asked, files_of}, Outcome.{read_fault, long_file, HasOutcome}}

-- ---- where an outcome comes from

-- Words that are this command come to this outcome, by what the shelf may have given of their files, of which the second
-- waits for the first.
pub record ComesAs {C : Type 0} (language : Language C) (command : Option C) (words : List (List ℕ)) (shelf : ShelfCall) (found : Outcome) : Type 0 where
  pub gave : File → Fetched
  pub files : EachFile (files_asked language command) (FileGave words shelf gave)
  pub waits : WaitsForModel (files_asked language command) words shelf gave
  pub follows : HasOutcome language command gave found

abbrev pub ComesTo : {C : Type 0} → Language C → (words : List (List ℕ)) → ShelfCall → Outcome → Type 0
ComesTo language words shelf found = ComesAs language (language.spelled words) words shelf found

-- The outcome is that of the told bytes, or the read or the length fault of a file whose count of faults rose.
abbrev pub IsFileFault : File → Outcome → Type 0
IsFileFault file found = (found ≡ read_fault file.place) ⊎ (found ≡ long_file file.place)

abbrev pub ComesToTold : {C : Type 0} → Language C → Option C → (words : List (List ℕ)) → ShelfCall → (contents : ℕ → List ℕ) → Outcome → Type 0
ComesToTold language command words shelf contents found =
    HasOutcome language command (told_fetch contents) found
    ⊎ SomeFile (files_asked language command) (λ file. FileRose words shelf file × IsFileFault file found)

-- ---- what becomes of it

-- The outcome's text was written whole, without a call of the sink where it is empty, and no write failed.
pub record IsWhole {K : Type 0} (sink : SinkCall K) (found : Outcome) (status : ℕ) : Type 0 where
  pub own_status : status ≡ found.status
  pub whole_text : sink.written sink.after ≡ appended (sink.written sink.before) found.text
  pub uncalled : found.text ≡ [] → sink.after ≡ sink.before
  pub unfailed : sink.faults sink.after ≡ sink.faults sink.before

-- The sink failed in the middle of the outcome's text, of which a proper prefix was written. One write failed, and it was
-- the last: nothing was written after it.
pub record IsCutShort {K : Type 0} (sink : SinkCall K) (found : Outcome) (status : ℕ) : Type 0 where
  pub fault_status : status ≡ WRITE_FAULT
  pub once : sink.faults sink.after ≡ counted (sink.faults sink.before)
  pub last : IsTrue (sink.last_failed sink.after)
  pub count : ℕ
  pub proper : count < length found.text
  pub prefix : sink.written sink.after ≡ appended (sink.written sink.before) (take count found.text)

-- Memory ran out before the sink was called.
pub record IsOutOfMemory {K : Type 0} (sink : SinkCall K) (status : ℕ) : Type 0 where
  pub fault_status : status ≡ NO_MEMORY
  pub uncalled : sink.after ≡ sink.before

-- an outcome to which the words come, and how it was carried out
pub record IsCarriedOut {K : Type 0} (comes : Outcome → Type 0) (sink : SinkCall K) (status : ℕ) : Type 0 where
  pub found : Outcome
  pub comes_to : comes found
  pub carried : IsWhole sink found status ⊎ IsCutShort sink found status

-- How a call ends: out of memory, or with an outcome to which the words come.
abbrev pub CallEnds : {K : Type 0} (comes : Outcome → Type 0) → SinkCall K → (status : ℕ) → Type 0
CallEnds comes sink status = IsOutOfMemory sink status ⊎ IsCarriedOut comes sink status

-- Where the shelf tells the files of the words, memory ran out or the outcome of the told bytes was written whole.
abbrev pub KeepsToTold : {C K : Type 0} → Language C → (words : List (List ℕ)) (held : List ℕ → Held) → SinkCall K → (status : ℕ) → Type 0
KeepsToTold language words held sink status =
    (contents : ℕ → List ℕ) → TellsFiles (files_of language words) words held contents
    → IsOutOfMemory sink status
    ⊎ ((found : Outcome) × HasOutcome language (language.spelled words) (told_fetch contents) found × IsWhole sink found status)

-- A line about some file of the command was written whole, where this holds of the file, and no file after it was fetched.
abbrev pub WritesOfFile : {K : Type 0} → List File → (words : List (List ℕ)) → ShelfCall → (holds : File → Type 0) (line : (place : ℕ) → Outcome) → SinkCall K → (status : ℕ) → Type 0
WritesOfFile files words shelf holds line sink status =
    SomeFile files (λ file. holds file × NoneAfter files words shelf file.place × IsWhole sink (line file.place) status)

-- What may be answered to words of whose files nothing is told: want of memory, a write fault, or the status of an
-- outcome to which the words come.
abbrev pub MayEndWith : {C : Type 0} → Language C → (words : List (List ℕ)) (status : ℕ) → Type 0
MayEndWith language words status =
    (status ≡ NO_MEMORY) ⊎ ((status ≡ WRITE_FAULT)
    ⊎ ((gave : File → Fetched) × (found : Outcome) × HasOutcome language (language.spelled words) gave found × (status ≡ found.status)))
