-- What a run in form shows of a task and of a chain, be the run legal or not. Times are in ticks. A job of a run that isn't
-- legal may be released, and finish, before it arrives.
use Rattle.std.specs.Prelude.{◌≡◌, ℕ, ℤ, pos, ◌-ℤ◌, ◌+◌, ◌<◌, ◌≤◌, length, slice_index, Option}
use Rattle.cl_runs.specs.{TaskTiming.{System, timing_at}, Table.job_at, Run.{Run, jobs_of}, Moments.{Finishes, JobFinishes}}
use Rattle.cl_observe.specs.{declared.{values.Spread.Spread, task_shown.ShownTask.ShownTask}, Values.{CountsBelow, IsGreatestResponseOf, IsSpreadOf}}

-- ---- jobs

-- when a job is to have finished
abbrev pub job_due : System → Run → (task job : ℕ) → ℕ
job_due system run task job = (job_at (jobs_of run task) job).arrival + (timing_at system task).deadline

-- a job hasn't finished by then, and the run lasts until then
pub record MissesItsDeadline (system : System) (run : Run) (task job : ℕ) : Type 0 where
  pub lasts : job_due system run task job ≤ run.table.ticks
  pub unfinished : (finish : ℕ) → JobFinishes system run task job finish → job_due system run task job < finish

-- a job finishes so long after it arrives
pub record HasResponseIn (system : System) (run : Run) (task job : ℕ) (response : ℤ) : Type 0 where
  pub finish : ℕ
  pub finishes : JobFinishes system run task job finish
  pub response_is : response ≡ pos finish -ℤ pos (job_at (jobs_of run task) job).arrival

-- it is released so long after it arrives
pub record HasJitterIn (run : Run) (task job : ℕ) (jitter : ℤ) : Type 0 where
  pub in_table : job < length (jobs_of run task)
  pub jitter_is : jitter ≡ pos (job_at (jobs_of run task) job).release -ℤ pos (job_at (jobs_of run task) job).arrival

-- a runnable has finished in it, and takes so long
pub record HasTimeIn (system : System) (run : Run) (task place job : ℕ) (time : ℤ) : Type 0 where
  pub finish : ℕ
  pub finishes : Finishes system run task job place finish
  pub time_is : time ≡ pos (slice_index (job_at (jobs_of run task) job).times place)

-- ---- tasks

-- what a run shows of a task: how many of its jobs miss their deadlines, the greatest response, and the least and the
-- greatest time from an arrival to its release
pub record IsShownTask (system : System) (run : Run) (task : ℕ) (shown : ShownTask) : Type 0 where
  pub misses : CountsBelow (MissesItsDeadline system run task) (length (jobs_of run task)) shown.misses
  pub response : IsGreatestResponseOf (HasResponseIn system run task) shown.response
  pub jitter : IsSpreadOf (HasJitterIn run task) shown.jitter

-- the least and the greatest time of a runnable of it
abbrev pub IsShownTime : System → Run → (task place : ℕ) → Option Spread → Type 0
IsShownTime system run task place time = IsSpreadOf (HasTimeIn system run task place) time
