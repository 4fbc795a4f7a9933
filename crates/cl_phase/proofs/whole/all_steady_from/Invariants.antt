use Rattle.cl_stim.specs.Integers.{IsIntegerWithin}
use Rattle.cl_phase.specs.Whole.{LATEST_STEADY}
use Rattle.cl_phase.proofs.whole.all_steady_from.Given as goal

abbrev pub invariant-loop-group : goal.invariant-loop-group
invariant-loop-group l = IsIntegerWithin LATEST_STEADY l.steady
