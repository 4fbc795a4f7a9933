-- Jobs that take time.
use Rattle.std.specs.Prelude.{ℕ, ◌<◌, ◌≤◌, List, length, slice_index}
use Rattle.cl_runs.specs.{declared.job.Job.Job, Table.job_at}

-- each job has a runnable, and each of its runnables takes a tick at least
pub record TakeTime (jobs : List Job) : Type 0 where
  pub some : (job : ℕ) → job < length jobs → 0 < length (job_at jobs job).times
  pub ticks : (job place : ℕ) → job < length jobs → place < length (job_at jobs job).times → 1 ≤ slice_index (job_at jobs job).times place
