use Rattle.std.proofs.Common.{ℕ, ◌<◌}
use Rattle.cl_runs.specs.Run.{jobs_of}
use Rattle.cl_check.specs.InOrder.{AreJobsInOrder}
use Rattle.cl_check.proofs.in_order.is_in_order.Given as goal

abbrev pub invariant-loop-task : goal.invariant-loop-task
invariant-loop-task l = (task : ℕ) → task < l.task → AreJobsInOrder (jobs_of l.run task)
