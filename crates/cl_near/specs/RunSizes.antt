-- How large runs are. Times are in ticks.
use Rattle.std.specs.Prelude.{◌≡◌, ℕ, ◌<◌, ◌≤◌, Bool, List}
use Rattle.cl_model.specs.declared.model.SystemModel.{SystemModel}
use Rattle.cl_gen.specs.{declared.limits.TheConstants.{MOST_RUN_TICKS, MOST_EXECUTIONS}, Count.executions_on}
use Rattle.cl_near.specs.declared.run_size.RunSize.{RunSize, TheVariants.{TooLong, TooMany, Fits}}

-- a run has few enough ticks, and so many executions are counted
pub record CountsExecutions (model : SystemModel) (ticks : ℕ) (cores : List Bool) (count : ℕ) : Type 0 where
  pub short : ticks ≤ MOST_RUN_TICKS
  pub counted : count ≡ executions_on model ticks cores

-- the size of a run of some cores
pub record IsSizeOfRun (model : SystemModel) (ticks : ℕ) (cores : List Bool) (size : RunSize) : Type 0 where
  pub too_long : size ≡ TooLong → MOST_RUN_TICKS < ticks
  pub too_many : (count : ℕ) → size ≡ TooMany count → CountsExecutions model ticks cores count
  pub many : (count : ℕ) → size ≡ TooMany count → MOST_EXECUTIONS < count
  pub fits : (count : ℕ) → size ≡ Fits count → CountsExecutions model ticks cores count
  pub few : (count : ℕ) → size ≡ Fits count → count ≤ MOST_EXECUTIONS
