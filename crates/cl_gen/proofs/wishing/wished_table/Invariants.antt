use Rattle.cl_runs.specs.SystemOf.{system_of}
use Rattle.cl_gen.proofs.WishedTables.{AreWishedFirst}
use Rattle.cl_gen.proofs.wishing.wished_table.Given as goal

-- the jobs of the tasks so far
abbrev pub invariant-loop-task : goal.invariant-loop-task
invariant-loop-task g l = AreWishedFirst (system_of l.model) l.ticks l.cores l.task l.jobs
