-- How far a task has come with its jobs. Times are in ticks.
use Rattle.std.specs.Prelude.{◌≡◌, ℕ, ◌+◌, ◌-◌, ◌^◌, ◌<◌, ◌≤◌, ◌⊎◌, true, List, length, slice_index}
use Rattle.cl_runs.specs.{TaskTiming.{Timing, range_at}, declared.job.Job.Job, Table.job_at, Work.{work_before, work_through}}
use Rattle.cl_sched.specs.declared.progress.Progress.{Progress}

-- a task with so many executed ticks has come to a runnable of a job: all work before it is done, and some of it is
-- left
pub record IsAtRunnable (jobs : List Job) (done : ℕ) (progress : Progress) : Type 0 where
  pub in_table : progress.job < length jobs
  pub is_runnable : progress.place < length (job_at jobs progress.job).times
  pub some_left : 1 ≤ progress.left
  pub within : progress.left ≤ slice_index (job_at jobs progress.job).times progress.place
  pub reached : done + progress.left ≡ work_through jobs progress.job progress.place
  pub release : progress.release ≡ (job_at jobs progress.job).release

-- it has finished all jobs, so that nothing further is released below the greatest number
pub record IsPastJobs (jobs : List Job) (done : ℕ) (progress : Progress) : Type 0 where
  pub past : progress.job ≡ length jobs
  pub reached : done ≡ work_before jobs progress.job 0
  pub release : progress.release ≡ 2 ^ 64 - 1

-- how far a task with so many executed ticks has come
abbrev pub HasComeTo : List Job → (done : ℕ) → Progress → Type 0
HasComeTo jobs done progress = IsAtRunnable jobs done progress ⊎ IsPastJobs jobs done progress

-- the runnable is whole, and some of it is done
pub record IsHolding (task : Timing) (jobs : List Job) (progress : Progress) : Type 0 where
  pub in_table : progress.job < length jobs
  pub is_whole : (range_at task progress.place).whole ≡ true
  pub begun : progress.left < slice_index (job_at jobs progress.job).times progress.place
