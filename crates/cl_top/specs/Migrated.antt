-- A file that holds what `migrate` made of another.
use Rattle.std.specs.Prelude.{◌≡◌, ℕ, ◌≤◌, List, length, Some}
use Rattle.cl_top.specs.{declared.command.Command.TheVariants.Migrate, Commands.commands}
use Rattle.cl_engine.specs.{declared.{files.TheConstants.FILE_LIMIT, outcome.Outcome.Outcome, status.TheConstants.DONE}, Fetched.told_fetch, Outcome.HasOutcome}

-- the file of the one word holds what `migrate` comes to at the file of the other, and is within the limit of a file
pub record IsMigratedFile (contents migrated : ℕ → List ℕ) : Type 0 where
  pub outcome : Outcome
  pub comes : HasOutcome commands (Some Migrate) (told_fetch contents) outcome
  pub done : outcome.status ≡ DONE
  pub holds : migrated 1 ≡ outcome.text
  pub within : length (migrated 1) ≤ FILE_LIMIT
