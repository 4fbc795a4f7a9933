-- Which job tables are lawful.
use Rattle.std.specs.Prelude.{◌≡◌, ℕ, ◌<◌, ◌≤◌, List, [], length, slice_index_or, All}
use Rattle.std.specs.List.{AllZip}
use Rattle.cl_runs.specs.{declared.job.{Job.Job, JobTable.JobTable}, Arrivals.FollowPattern, TaskTiming.{TimeRange, Timing, System, timing_at}}

-- what stands past the last job
unfoldable pub no_job : Job
no_job = record { arrival = 0; release = 0; times = [] }

-- the job of a number
abbrev pub job_at : List Job → (job : ℕ) → Job
job_at jobs job = slice_index_or jobs job no_job

-- the jobs of a task
abbrev pub table_jobs : JobTable → (task : ℕ) → List Job
table_jobs table task = slice_index_or table.jobs task []

-- an execution time lies in the runnable's range
abbrev pub LiesIn : TimeRange → (time : ℕ) → Type 0
LiesIn range time = (range.least ≤ time) × (time ≤ range.greatest)

-- the job has one execution time per runnable of the task, each in its range
abbrev pub HasTimes : Timing → Job → Type 0
HasTimes task job = AllZip LiesIn task.ranges job.times

-- the jobs of a task are exactly those of one way to follow its arrival pattern for `ticks` ticks, each with its
-- execution times.
pub record AreLawfulJobs (task : Timing) (ticks : ℕ) (jobs : List Job) : Type 0 where
  pub arrivals : FollowPattern task.pattern ticks jobs
  pub times : All (HasTimes task) jobs

-- a lawful job table has lawful jobs for each task
pub record IsLawful (system : System) (table : JobTable) : Type 0 where
  pub tasks : length table.jobs ≡ length system.tasks
  pub jobs : (task : ℕ) → task < length system.tasks → AreLawfulJobs (timing_at system task) table.ticks (table_jobs table task)
