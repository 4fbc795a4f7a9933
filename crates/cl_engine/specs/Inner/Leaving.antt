-- What the search for an outcome leaves as it was, and why the outcome is what it is.
use Rattle.std.specs.Prelude.{◌≡◌, ◌⊎◌, ℕ, List, None}
use Rattle.cl_io.specs.Names.{SameAtEach}
use Rattle.cl_engine.specs.{declared.{outcome.Outcome.Outcome, status.TheConstants.MODEL_REFUSED}, Calls.ShelfCall, Fetched.{StaysBeside, TellsFiles, SomeFile, FileRose, FileTooLong, NoneAfter}, Files.File, Language.{Language, files_of, limited_of, IsOfContent}, Outcome.words_refused}
use Rattle.cl_engine.specs.{Outcome.{read_fault, long_file}, Steps.AreFewSteps}

pub record LeavesRest {C : Type 0} (language : Language C) (words : List (List ℕ)) (shelf : ShelfCall) (steps steps_after : ℕ) : Type 0 where
  pub same : SameAtEach shelf.held shelf.held_after
  pub other_faults : StaysBeside (files_of language words) words shelf.faults shelf.faults_after
  pub other_longest : StaysBeside (files_of language words) words shelf.longest shelf.longest_after
  pub few_steps : (contents : ℕ → List ℕ) → TellsFiles (files_of language words) words shelf.held contents
      → AreFewSteps language (language.spelled words) contents steps steps_after

-- why an outcome of a command with these files, by each length past which one is too long, is what it is
pub data Cause (files limited : List File) (words : List (List ℕ)) (shelf : ShelfCall) (found : Outcome) : Type 0 where
  OfFault : SomeFile files (λ file. FileRose words shelf file × NoneAfter files words shelf file.place × (found ≡ read_fault file.place)) → Cause files limited words shelf found
  OfLength : SomeFile limited (λ file. FileTooLong words shelf file × NoneAfter limited words shelf file.place × (found ≡ long_file file.place)) → Cause files limited words shelf found
  OfRefusal : NoneAfter files words shelf 1 → found.status ≡ MODEL_REFUSED → Cause files limited words shelf found
  OfContent : IsOfContent found.status → Cause files limited words shelf found

-- and of words: they are no command, or it is that of their command
abbrev pub IsCaused : {C : Type 0} → Language C → (words : List (List ℕ)) → ShelfCall → Outcome → Type 0
IsCaused language words shelf found = ((language.spelled words ≡ None) × (found ≡ words_refused)) ⊎ Cause (files_of language words) (limited_of language words) words shelf found
