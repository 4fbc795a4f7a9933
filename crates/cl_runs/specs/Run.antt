-- Runs: a job table, and for each core which task runs in each tick.
use Rattle.std.specs.Prelude.{◌≡◌, ℕ, Bool, false, Option, Some, None, ◌==◌, ◌<◌, List, [], length, slice_index_or, take, count_by, replicate}
use Rattle.cl_runs.specs.{TaskTiming.{System, timing_at}, declared.job.{Job.Job, JobTable.JobTable}, Table.{job_at, table_jobs}}

-- a job table and, for each core, one entry a tick: the task that runs, or none where the core idles
pub record Run : Type 0 where
  pub table : JobTable
  pub entries : List (List (Option ℕ))

-- the jobs of a task
abbrev pub jobs_of : Run → (task : ℕ) → List Job
jobs_of run task = table_jobs run.table task

-- the entries of a core
abbrev pub core_entries : Run → (core : ℕ) → List (Option ℕ)
core_entries run core = slice_index_or run.entries core []

-- the entry of a core at a tick
abbrev pub entry_at : Run → (core tick : ℕ) → Option ℕ
entry_at run core tick = slice_index_or (core_entries run core) tick None

-- whether an entry is a task
abbrev pub is_task : (task : ℕ) → Option ℕ → Bool
is_task task None = false
is_task task (Some runs) = runs == task

-- the number of ticks below a moment in which a task runs on its core: its executed ticks
unfoldable pub executed : System → Run → (task moment : ℕ) → ℕ
executed system run task moment = count_by (is_task task) (take moment (core_entries run (timing_at system task).core))

-- an entry of a core is a task of that core, or idle
abbrev pub IsEntryOf : System → (core : ℕ) → Option ℕ → Type 0
IsEntryOf system core None = Unit {0}
IsEntryOf system core (Some task) = (task < length system.tasks) × ((timing_at system task).core ≡ core)

-- a run in form for a system: one list of jobs per task, one time per runnable in each job, one list of entries per
-- core with one entry per tick, and each entry a task of that core or idle.
pub record IsInForm (system : System) (run : Run) : Type 0 where
  pub tasks : length run.table.jobs ≡ length system.tasks
  pub times : (task job : ℕ) → task < length system.tasks → job < length (jobs_of run task)
      → length (job_at (jobs_of run task) job).times ≡ length (timing_at system task).ranges
  pub cores : length run.entries ≡ system.cores
  pub ticks : (core : ℕ) → core < system.cores → length (core_entries run core) ≡ run.table.ticks
  pub entries : (core tick : ℕ) → core < system.cores → tick < run.table.ticks → IsEntryOf system core (entry_at run core tick)

-- the run of no ticks
unfoldable pub empty_run : System → Run
empty_run system = record {
  table = record { ticks = 0; jobs = replicate (length system.tasks) [] };
  entries = replicate system.cores [];
}
