use Rattle.std.proofs.Common.{◌≡◌, ℕ, ◌*◌, ◌≤◌, List, take}
use Rattle.std.specs.Prelude.{sum_by}
use Rattle.cl_model.specs.declared.{limits.TheConstants.MOST_TICKS, task.RunnableDef.RunnableDef}
use Rattle.cl_margin.specs.Grown.{grown_greatest}
use Rattle.cl_margin.proofs.whose.grown_time.Given as goal

-- the sum of the runnables so far, each at most ten times as long as it may be
pub record IsSumOf (percent time index : ℕ) (runnables : List RunnableDef) : Type 0 where
  pub is : time ≡ sum_by (grown_greatest percent) (take index runnables)
  pub small : time ≤ index * (10 * MOST_TICKS)

abbrev pub invariant-loop-runnable : goal.invariant-loop-runnable
invariant-loop-runnable l = IsSumOf l.percent l.time l.runnable-index l.runnable-items
