use Rattle.cl_runs.specs.SystemOf.{system_of}
use Rattle.cl_sched.proofs.FilledCores.{AreMarkedFilledBelow}
use Rattle.cl_sched.proofs.simulating.fill_marked.Given as goal

-- the cores so far are filled where they are marked
abbrev pub invariant-loop-core : goal.invariant-loop-core
invariant-loop-core l = AreMarkedFilledBelow (system_of l.model) l.cores l.core l.fn.run l.run
