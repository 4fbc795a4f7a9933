use Rattle.std.proofs.Common.{ℕ, ◌<◌}
use Rattle.cl_runs.specs.Table.{job_at}
use Rattle.cl_check.proofs.in_order.arrivals_rise.Given as goal

abbrev pub invariant-loop-next : goal.invariant-loop-next
invariant-loop-next l = (k m : ℕ) → k < m → m < l.next → (job_at l.jobs k).arrival < (job_at l.jobs m).arrival
