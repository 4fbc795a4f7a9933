use Rattle.std.proofs.Common.{◌≡◌, drop, map}
use Rattle.cl_runs.specs.SystemOf.{range_of}
use Rattle.cl_check.specs.Legality.{task_faults, faults_from}
use Rattle.cl_check.proofs.table_check.check_jobs.Given as goal

-- the faults of the jobs that are left are those of all
abbrev pub invariant-loop-number : goal.invariant-loop-number
invariant-loop-number l = task_faults l.kind (map range_of l.runnables) l.ticks l.task l.jobs
    ≡ faults_from l.kind (map range_of l.runnables) l.ticks l.task l.number l.due.low l.due.high (drop l.number l.jobs)
