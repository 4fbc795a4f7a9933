-- How many times runnables are executed.
use Rattle.std.specs.Prelude.{ℕ, List, length, sum_by}
use Rattle.cl_runs.specs.declared.job.{Job.Job, JobTable.JobTable}

-- of the jobs of a task: one time for each runnable of each job
abbrev pub job_executions : List Job → ℕ
job_executions jobs = sum_by (λ (job : Job). length job.times) jobs

-- of all jobs of a table
abbrev pub executions : JobTable → ℕ
executions table = sum_by job_executions table.jobs
