-- Which tasks are held: those that have begun a whole runnable and not finished it.
use Rattle.std.specs.Prelude.{◌≡◌, ℕ, true, ◌<◌, List, length}
use Rattle.cl_runs.specs.{TaskTiming.{Timing, range_at}, declared.job.Job.Job, Work.{work_before, work_through}}

-- a task with so many executed ticks is held in a runnable of a job: the runnable is whole, begun, and not finished
pub record IsHeldIn (task : Timing) (jobs : List Job) (job place executed : ℕ) : Type 0 where
  pub in_table : job < length jobs
  pub is_runnable : place < length task.ranges
  pub is_whole : (range_at task place).whole ≡ true
  pub begun : work_before jobs job place < executed
  pub unfinished : executed < work_through jobs job place

-- a task is held where it is held in some runnable of some job
pub record IsHeld (task : Timing) (jobs : List Job) (executed : ℕ) : Type 0 where
  pub job : ℕ
  pub place : ℕ
  pub inside : IsHeldIn task jobs job place executed
