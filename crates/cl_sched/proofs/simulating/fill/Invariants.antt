use Rattle.cl_runs.specs.SystemOf.{system_of}
use Rattle.cl_sched.proofs.Filled.{AreFilledBelow}
use Rattle.cl_sched.proofs.simulating.fill.Given as goal

-- the cores so far are filled
abbrev pub invariant-loop-core : goal.invariant-loop-core
invariant-loop-core l = AreFilledBelow (system_of l.model) l.core l.fn.run l.run
