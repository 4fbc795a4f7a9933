-- What a call of the top function keeps, whatever the words, the files and the output are.
use Rattle.std.specs.Prelude.{◌≡◌, ◌≢◌, ◌⊎◌, ℕ, List, None, IsTrue}
use Rattle.cl_io.specs.{Counts.{Rose, counted}, Names.SameAtEach}
use Rattle.cl_engine.specs.{declared.status.TheConstants.{WORDS_REFUSED, READ_FAULT, LONG_FILE, MODEL_REFUSED, WRITE_FAULT, NO_MEMORY, ARGUMENT_NOT_TEXT}, Calls.{ShelfCall, SinkCall}, Fetched.{FileRose, FileTooLong, NoneRose, StaysBeside, TellsFiles, NoneAfter}, Language.Language}
use Rattle.cl_engine.specs.{Language.{files_of, limited_of}, Outcome.{read_fault, long_file}, Run.{ComesTo, ComesToTold, CallEnds, KeepsToTold, WritesOfFile}, Steps.AreFewSteps}

-- What is kept where the call made of the shelf what `shelf` says, and of the sink what `sink` says, with the shelf and the
-- steps before and after it, and answered this status.
pub record IsSoundCall {C S K : Type 0} (language : Language C) (words : List (List ℕ)) (shelf : ShelfCall) (before after : S) (sink : SinkCall K) (steps steps_after status : ℕ) : Type 0 where
  -- It ends out of memory, or with an outcome to which the words come.
  pub ends : CallEnds (ComesTo language words shelf) sink status
  -- What it leaves: what the shelf holds, the numbers of other names, the whole shelf where the words are refused; and at
  -- most so many steps as the told files ask for, whatever is answered.
  pub held : SameAtEach shelf.held shelf.held_after
  pub other_faults : StaysBeside (files_of language words) words shelf.faults shelf.faults_after
  pub other_longest : StaysBeside (files_of language words) words shelf.longest shelf.longest_after
  pub unasked : language.spelled words ≡ None → after ≡ before
  pub few_steps : (contents : ℕ → List ℕ) → TellsFiles (files_of language words) words shelf.held contents
      → AreFewSteps language (language.spelled words) contents steps steps_after
  -- When each status comes. Where its text couldn't be written whole, a write fault comes in its place.
  pub words_refused : status ≡ WORDS_REFUSED → language.spelled words ≡ None
  pub no_command : language.spelled words ≡ None → (status ≡ WORDS_REFUSED) ⊎ ((status ≡ WRITE_FAULT) ⊎ (status ≡ NO_MEMORY))
  pub read_fault : status ≡ READ_FAULT → WritesOfFile (files_of language words) words shelf (FileRose words shelf) read_fault sink status
  pub long_file : status ≡ LONG_FILE → WritesOfFile (limited_of language words) words shelf (FileTooLong words shelf) long_file sink status
  pub model_refused : status ≡ MODEL_REFUSED → NoneAfter (files_of language words) words shelf 1
  pub write_fault : status ≡ WRITE_FAULT → Rose (sink.faults sink.before) (sink.faults sink.after)
  pub failed_once : status ≡ WRITE_FAULT → sink.faults sink.after ≡ counted (sink.faults sink.before)
  pub failed_last : status ≡ WRITE_FAULT → IsTrue (sink.last_failed sink.after)
  pub unfailed : status ≢ WRITE_FAULT → sink.faults sink.after ≡ sink.faults sink.before
  pub out_of_memory : status ≡ NO_MEMORY → sink.after ≡ sink.before
  pub other_status : status ≢ ARGUMENT_NOT_TEXT
  -- From the bytes to the bytes, where the shelf tells them: the outcome of the told bytes, or a fault that a count shows;
  -- and that outcome alone, where no count rose.
  pub told_files : (contents : ℕ → List ℕ) → TellsFiles (files_of language words) words shelf.held contents
      → CallEnds (ComesToTold language (language.spelled words) words shelf contents) sink status
  pub told : NoneRose (files_of language words) words shelf → ¬ Rose (sink.faults sink.before) (sink.faults sink.after)
      → KeepsToTold language words shelf.held sink status
