use Rattle.cl_stim.specs.Integers.{IsIntegerWithin}
use Rattle.cl_phase.specs.Inner.Ranges.{FARTHEST_JOB}
use Rattle.cl_phase.proofs.whole.least_arrival.Given as goal

abbrev pub invariant-loop-group : goal.invariant-loop-group
invariant-loop-group l = IsIntegerWithin FARTHEST_JOB l.least
