use Rattle.std.proofs.Common.{◌≡◌, true, take}
use Rattle.cl_runs.specs.SystemOf.{system_of}
use Rattle.cl_exact.specs.TimedPeriodic.{are_timed_periodic}
use Rattle.cl_exact.proofs.beats.timed_periodic_count.Given as goal

abbrev pub invariant-loop-place : goal.invariant-loop-place
invariant-loop-place l = are_timed_periodic (system_of l.model) (take l.place l.groups) ≡ true
