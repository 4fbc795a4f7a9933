use Rattle.std.proofs.Common.{◌≡◌, true, take}
use Rattle.cl_runs.specs.SystemOf.{system_of}
use Rattle.cl_exact.specs.TimedPeriodic.{are_timed_periodic}
use Rattle.cl_exact.proofs.beats.are_timed_periodic.Given as goal

abbrev pub invariant-loop-group : goal.invariant-loop-group
invariant-loop-group l = are_timed_periodic (system_of l.model) (take l.group-index l.groups) ≡ true
