use Rattle.std.proofs.Common.{ℕ, ◌<◌}
use Rattle.cl_runs.specs.SystemOf.{system_of}
use Rattle.cl_check.specs.Legality.{IsScheduleKept}
use Rattle.cl_check.proofs.checking.check_cores.Given as goal

-- the cores so far execute what is scheduled
abbrev pub invariant-loop-core : goal.invariant-loop-core
invariant-loop-core l = (other t : ℕ) → other < l.core → t < l.run.table.ticks → IsScheduleKept (system_of l.model) l.run other t
