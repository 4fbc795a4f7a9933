-- What a task executes in a run, as parts of its stretches, and when its jobs finish. Times are in ticks.
use Rattle.std.specs.Prelude.{◌≡◌, ℕ, suc, Some, ◌+◌, ◌<◌, ◌≤◌, ◌⊎◌, List, length, slice_index_or, slice_get}
use Rattle.cl_runs.specs.{declared.job.Job.Job, Table.job_at, TaskTiming.{System, timing_at}, Run.{Run, jobs_of, entry_at}, Moments.{Executes, JobFinishes}}
use Rattle.cl_check.specs.JobMoments.{IsMomentOf}
use Rattle.cl_draw.specs.declared.parts.Part.{Part}

-- when a job is due
abbrev pub due_at : List Job → (deadline job : ℕ) → ℕ
due_at jobs deadline job = (job_at jobs job).arrival + deadline

-- when a job of a task of a run is due
abbrev pub due_in : System → Run → (task job : ℕ) → ℕ
due_in system run task job = due_at (jobs_of run task) (timing_at system task).deadline job

-- a part: some ticks, in all of which the task executes one runnable of one job, all before the job is due or all after
pub record IsPart (system : System) (run : Run) (task : ℕ) (part : Part) : Type 0 where
  pub some : part.from < part.to
  pub executes : (tick : ℕ) → part.from ≤ tick → tick < part.to → Executes system run task part.job part.place tick
  pub one_side : (part.to ≤ due_in system run task part.job) ⊎ (due_in system run task part.job ≤ part.from)

-- a part ends before the next begins. Where they touch, a runnable finishes there or the job is due then.
pub record IsFollowedBy (system : System) (run : Run) (task : ℕ) (part next : Part) : Type 0 where
  pub in_order : part.to ≤ next.from
  pub cut : part.to ≡ next.from → part.job ≡ next.job → part.place ≡ next.place → part.to ≡ due_in system run task part.job

-- what stands past the last part
unfoldable pub no_part : Part
no_part = record { job = 0; place = 0; from = 0; to = 0 }

-- the part of a number
abbrev pub part_at : List Part → (k : ℕ) → Part
part_at parts k = slice_index_or parts k no_part

-- some part has a tick
pub record HasPartAt (parts : List Part) (tick : ℕ) : Type 0 where
  pub place : ℕ
  pub within : place < length parts
  pub from : (part_at parts place).from ≤ tick
  pub to : tick < (part_at parts place).to

-- the parts of a task's stretches, in order: they have each tick in which the task runs, and they are as long as can be
pub record AreParts (system : System) (run : Run) (task : ℕ) (parts : List Part) : Type 0 where
  pub each : (k : ℕ) → k < length parts → IsPart system run task (part_at parts k)
  pub in_order : (k : ℕ) → suc k < length parts → IsFollowedBy system run task (part_at parts k) (part_at parts (suc k))
  pub all : (tick : ℕ) → tick < run.table.ticks → entry_at run (timing_at system task).core tick ≡ Some task → HasPartAt parts tick

-- when the jobs of a task finish: jobs finish in order, so those that do are the first
pub record AreFinishes (system : System) (run : Run) (task : ℕ) (finishes : List ℕ) : Type 0 where
  pub each : (job : ℕ) → IsMomentOf (JobFinishes system run task job) (slice_get finishes job)
