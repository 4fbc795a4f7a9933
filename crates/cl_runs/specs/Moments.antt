-- When the runnables of a job start and finish, and when they read and write.
use Rattle.std.specs.Prelude.{◌≡◌, ℕ, Some, ◌+◌, ◌-◌, ◌<◌, ◌≤◌, length}
use Rattle.cl_model.specs.declared.task.AccessKind.{AccessKind, TheVariants.{Explicit, Implicit, Timed}}
use Rattle.cl_runs.specs.{TaskTiming.{System, timing_at}, Table.job_at, Work.{work_before, work_through}, Held.IsHeld, Run.{Run, jobs_of, entry_at, executed}}

-- a task is held at a moment
abbrev pub IsHeldAt : System → Run → (task moment : ℕ) → Type 0
IsHeldAt system run task moment = IsHeld (timing_at system task) (jobs_of run task) (executed system run task moment)

-- a task executes a runnable of a job in a tick: it runs with all earlier work executed and the runnable not finished
pub record Executes (system : System) (run : Run) (task job place tick : ℕ) : Type 0 where
  pub in_table : job < length (jobs_of run task)
  pub is_runnable : place < length (timing_at system task).ranges
  pub below_end : tick < run.table.ticks
  pub runs : entry_at run (timing_at system task).core tick ≡ Some task
  pub begun : work_before (jobs_of run task) job place ≤ executed system run task tick
  pub unfinished : executed system run task tick < work_through (jobs_of run task) job place

-- a runnable of a job starts at a moment: the tick in which the task runs with all earlier work executed
pub record Starts (system : System) (run : Run) (task job place moment : ℕ) : Type 0 where
  pub in_table : job < length (jobs_of run task)
  pub is_runnable : place < length (timing_at system task).ranges
  pub below_end : moment < run.table.ticks
  pub reached : executed system run task moment ≡ work_before (jobs_of run task) job place
  pub runs : entry_at run (timing_at system task).core moment ≡ Some task

-- it finishes at the least moment with all work up to it executed
pub record Finishes (system : System) (run : Run) (task job place moment : ℕ) : Type 0 where
  pub in_table : job < length (jobs_of run task)
  pub is_runnable : place < length (timing_at system task).ranges
  pub by_end : moment ≤ run.table.ticks
  pub reached : executed system run task moment ≡ work_through (jobs_of run task) job place
  pub least : (s : ℕ) → executed system run task s ≡ work_through (jobs_of run task) job place → moment ≤ s

-- it has started before a moment
pub record HasStartedBefore (system : System) (run : Run) (task job place moment : ℕ) : Type 0 where
  pub start : ℕ
  pub before : start < moment
  pub starts : Starts system run task job place start

-- a job starts with its first runnable
abbrev pub JobStarts : System → Run → (task job moment : ℕ) → Type 0
JobStarts system run i k t = Starts system run i k 0 t

-- a job finishes with its last runnable
abbrev pub JobFinishes : System → Run → (task job moment : ℕ) → Type 0
JobFinishes system run i k t = Finishes system run i k (length (timing_at system i).ranges - 1) t

-- a timed job writes at its deadline, if it has finished by then and the run lasts until then
pub record WritesAtDeadline (system : System) (run : Run) (task job moment : ℕ) : Type 0 where
  pub finish : ℕ
  pub finishes : JobFinishes system run task job finish
  pub in_time : finish ≤ moment
  pub at_deadline : moment ≡ (job_at (jobs_of run task) job).arrival + (timing_at system task).deadline
  pub by_end : moment ≤ run.table.ticks

-- explicit: a runnable reads at its start; implicit: at the start of its job; timed: at the arrival of its job
abbrev pub ReadsBy : AccessKind → System → Run → (task job place moment : ℕ) → Type 0
ReadsBy Explicit system run i k p t = Starts system run i k p t
ReadsBy Implicit system run i k p t = JobStarts system run i k t
ReadsBy Timed system run i k p t = t ≡ (job_at (jobs_of run i) k).arrival

-- explicit: a runnable writes at its finish; implicit: at the finish of its job; timed: at the deadline of its job
abbrev pub WritesBy : AccessKind → System → Run → (task job place moment : ℕ) → Type 0
WritesBy Explicit system run i k p t = Finishes system run i k p t
WritesBy Implicit system run i k p t = JobFinishes system run i k t
WritesBy Timed system run i k p t = WritesAtDeadline system run i k t

-- a runnable of a job reads at a tick. Source: AMALTHEA's three access kinds and logical execution time
pub record Reads (system : System) (run : Run) (task job place tick : ℕ) : Type 0 where
  pub in_table : job < length (jobs_of run task)
  pub is_runnable : place < length (timing_at system task).ranges
  pub moment : ReadsBy (timing_at system task).access system run task job place tick

-- it writes at a tick. Source: as for reads
pub record Writes (system : System) (run : Run) (task job place tick : ℕ) : Type 0 where
  pub in_table : job < length (jobs_of run task)
  pub is_runnable : place < length (timing_at system task).ranges
  pub moment : WritesBy (timing_at system task).access system run task job place tick

-- it has read before a moment
pub record HasReadBefore (system : System) (run : Run) (task job place moment : ℕ) : Type 0 where
  pub read : ℕ
  pub before : read < moment
  pub reads : Reads system run task job place read
