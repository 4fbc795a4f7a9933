-- The work of a task's jobs: sums of their execution times.
use Rattle.std.specs.Prelude.{ℕ, ◌+◌, List, take, sum, sum_by, slice_index}
use Rattle.cl_runs.specs.{declared.job.Job.Job, Table.job_at}

-- the total time of a task's jobs and runnables before a runnable of a job
unfoldable pub work_before : List Job → (job place : ℕ) → ℕ
work_before jobs k p = sum_by (λ (job : Job). sum job.times) (take k jobs) + sum (take p (job_at jobs k).times)

-- that total with the runnable itself
abbrev pub work_through : List Job → (job place : ℕ) → ℕ
work_through jobs k p = work_before jobs k p + slice_index (job_at jobs k).times p
