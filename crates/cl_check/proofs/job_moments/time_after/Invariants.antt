use Rattle.std.proofs.Common.{◌≡◌, ◌+◌, ◌-◌, ◌^◌, min, sum, take}
use Rattle.cl_check.proofs.job_moments.time_after.Given as goal

abbrev pub invariant-loop-time : goal.invariant-loop-time
invariant-loop-time l = l.total ≡ min (l.fn.done + sum (take l.time-index l.times)) (2 ^ 64 - 1)
