-- A trace file that holds what `simulate` made of a model file.
use Rattle.std.specs.Prelude.{◌≡◌, ℕ, ◌≤◌, List, Some}
use Rattle.cl_gen.specs.declared.limits.TheConstants.{MOST_RUN_TICKS}
use Rattle.cl_top.specs.{declared.command.Command.TheVariants.Simulate, Commands.commands}
use Rattle.cl_engine.specs.{declared.{outcome.Outcome.Outcome, status.TheConstants.DONE}, Fetched.told_fetch, Outcome.HasOutcome}

-- the file of the second word holds the trace to which `simulate` comes at the file of the first
pub record IsSimulatedFile (contents : ℕ → List ℕ) (ticks seed : ℕ) : Type 0 where
  pub few : ticks ≤ MOST_RUN_TICKS
  pub outcome : Outcome
  pub comes : HasOutcome commands (Some (Simulate ticks seed)) (told_fetch contents) outcome
  pub done : outcome.status ≡ DONE
  pub holds : contents 2 ≡ outcome.text
