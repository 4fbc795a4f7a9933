-- How the progress of a core begins, and what a task's executing changes. Times are in ticks.
use Rattle.std.specs.Prelude.{◌≡◌, ◌≢◌, ◌↔◌, ℕ, Some, ◌+◌, ◌<◌, List, length}
use Rattle.cl_model.specs.{declared.{model.SystemModel.SystemModel, task.RunnableDef.RunnableDef}, ByNumber.task_at}
use Rattle.cl_runs.specs.{TaskTiming.System, declared.job.{Job.Job, JobTable.JobTable}, Table.{job_at, table_jobs}}
use Rattle.cl_sched.specs.{declared.{progress.Progress.Progress, core_progress.CoreProgress.CoreProgress}, Progress.{IsAtRunnable, HasComeTo}, CoreProgress.{progress_at, Holds}}

-- how far a task has come at tick 0
pub record IsUnbegun (model : SystemModel) (table : JobTable) (task : ℕ) (progress : Progress) : Type 0 where
  pub task_is : progress.task ≡ task
  pub priority : progress.priority ≡ (task_at model task).priority
  pub has_come : HasComeTo (table_jobs table task) 0 progress

-- a job of a task is left, and a runnable of it that isn't finished
abbrev pub HasJobLeft : JobTable → Progress → Type 0
HasJobLeft table progress = (done : ℕ) × IsAtRunnable (table_jobs table progress.task) done progress

-- a task whose jobs aren't all finished has come to one of its runnables, of which its job has a time
abbrev pub IsInLists : List RunnableDef → List Job → Progress → Type 0
IsInLists runnables jobs progress = progress.job < length jobs
    → (progress.place < length runnables) × (progress.place < length (job_at jobs progress.job).times)

-- the task at an index of a list has executed its runnable for so many ticks, and is the held one exactly where it
-- holds
pub record HasExecuted (system : System) (table : JobTable) (index ticks : ℕ) (old new : CoreProgress) : Type 0 where
  pub tick : new.tick ≡ old.tick
  pub as_many : length new.tasks.items ≡ length old.tasks.items
  pub others : (other : ℕ) → other ≢ index → progress_at new.tasks.items other ≡ progress_at old.tasks.items other
  pub task : (progress_at new.tasks.items index).task ≡ (progress_at old.tasks.items index).task
  pub priority : (progress_at new.tasks.items index).priority ≡ (progress_at old.tasks.items index).priority
  pub further : (done : ℕ)
      → IsAtRunnable (table_jobs table (progress_at old.tasks.items index).task) done (progress_at old.tasks.items index)
      → HasComeTo (table_jobs table (progress_at old.tasks.items index).task) (done + ticks) (progress_at new.tasks.items index)
  pub held : (other : ℕ) → (new.held ≡ Some other) ↔ ((other ≡ index) × Holds system table (progress_at new.tasks.items index))
