use Rattle.cl_stim.specs.Integers.{IsIntegerWithin}
use Rattle.cl_phase.specs.Whole.{LATEST_STEADY}
use Rattle.cl_near.proofs.task_plan.steady_together.Given as goal

abbrev pub invariant-loop-other : goal.invariant-loop-other
invariant-loop-other l = IsIntegerWithin LATEST_STEADY l.steady
