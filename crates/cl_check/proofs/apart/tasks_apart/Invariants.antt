use Rattle.cl_runs.specs.SystemOf.{system_of}
use Rattle.cl_check.specs.Inner.PutApart.{AreApartUpTo}
use Rattle.cl_check.proofs.apart.tasks_apart.Given as goal

-- the tasks of the cores so far stand apart
abbrev pub invariant-loop-core : goal.invariant-loop-core
invariant-loop-core l = AreApartUpTo (system_of l.model) l.run l.core 0 l.apart
