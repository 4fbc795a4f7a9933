use Rattle.std.proofs.Common.{◌≡◌, ◌*◌, ◌≤◌, ℕ, List, take}
use Rattle.std.specs.Prelude.{sum_by}
use Rattle.cl_model.specs.declared.{limits.TheConstants.MOST_TICKS, task.RunnableDef.RunnableDef}
use Rattle.cl_tune.specs.Inner.Times.{scaled_greatest}
use Rattle.cl_tune.proofs.times.scaled_sum.Given as goal

-- the sum of the runnables so far, each of which is in range
pub record IsSum (percent sum index : ℕ) (runnables : List RunnableDef) : Type 0 where
  pub is : sum ≡ sum_by (scaled_greatest percent) (take index runnables)
  pub small : sum ≤ index * MOST_TICKS

abbrev pub invariant-loop-runnable : goal.invariant-loop-runnable
invariant-loop-runnable l = IsSum l.percent l.sum l.runnable-index l.runnables
