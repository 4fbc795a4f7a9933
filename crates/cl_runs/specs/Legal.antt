-- Which runs are legal: partitioned fixed-priority scheduling, preemptive but for whole runnables.
use Rattle.std.specs.Prelude.{◌≡◌, ℕ, Option, Some, None, cond, nat_le, ◌<◌, ◌≤◌, ◌⊎◌, List, length, sum, sum_by}
use Rattle.cl_runs.specs.{TaskTiming.{System, timing_at}, declared.job.{Job.Job, JobTable.JobTable}, Table.{table_jobs, IsLawful}, Held.IsHeld, Run.{Run, entry_at, executed, IsInForm}}

-- the total time of the jobs that are released at or before a moment
unfoldable pub released : List Job → (moment : ℕ) → ℕ
released jobs t = sum_by (λ (job : Job). cond (nat_le job.release t) (sum job.times) 0) jobs

-- a task is pending at a moment where more work is released than was executed
-- (`done` gives each task's executed ticks)
abbrev pub IsPending : JobTable → (done : ℕ → ℕ) → (moment task : ℕ) → Type 0
IsPending table done moment task = done task < released (table_jobs table task) moment

-- a task is the core's pending task of highest priority
pub record IsHighestPending (system : System) (table : JobTable) (done : ℕ → ℕ) (moment core task : ℕ) : Type 0 where
  pub is_task : task < length system.tasks
  pub on_core : (timing_at system task).core ≡ core
  pub pending : IsPending table done moment task
  pub highest : (other : ℕ) → other < length system.tasks → (timing_at system other).core ≡ core → IsPending table done moment other
      → (timing_at system other).priority ≤ (timing_at system task).priority

-- no task of the core is pending
pub record IsNonePending (system : System) (table : JobTable) (done : ℕ → ℕ) (moment core : ℕ) : Type 0 where
  pub none : (task : ℕ) → task < length system.tasks → (timing_at system task).core ≡ core → IsPending table done moment task → ⊥

-- a task of the table is held (`done` gives each task's executed ticks)
abbrev pub IsTaskHeld : System → JobTable → (done : ℕ → ℕ) → (task : ℕ) → Type 0
IsTaskHeld system table done task = IsHeld (timing_at system task) (table_jobs table task) (done task)

-- a task is the core's held task of least number
pub record IsFirstHeld (system : System) (table : JobTable) (done : ℕ → ℕ) (core task : ℕ) : Type 0 where
  pub is_task : task < length system.tasks
  pub on_core : (timing_at system task).core ≡ core
  pub held : IsTaskHeld system table done task
  pub least : (other : ℕ) → other < length system.tasks → (timing_at system other).core ≡ core → IsTaskHeld system table done other
      → task ≤ other

-- no task of the core is held
pub record IsNoneHeld (system : System) (table : JobTable) (done : ℕ → ℕ) (core : ℕ) : Type 0 where
  pub none : (task : ℕ) → task < length system.tasks → (timing_at system task).core ≡ core → IsTaskHeld system table done task → ⊥

-- what the core does in a tick: its held task of least number runs, and where none is held its pending task of highest
-- priority; it idles where none is held and none is pending
-- source: partitioned fixed-priority scheduling with non-preemptive regions
abbrev pub IsScheduled : System → JobTable → (done : ℕ → ℕ) → (tick core : ℕ) → Option ℕ → Type 0
IsScheduled system table done tick core None = IsNoneHeld system table done core × IsNonePending system table done tick core
IsScheduled system table done tick core (Some task) = IsFirstHeld system table done core task
    ⊎ (IsNoneHeld system table done core × IsHighestPending system table done tick core task)

-- a legal run: in form, with a lawful table, and each core's entry at each tick is the one that is scheduled
pub record IsLegal (system : System) (run : Run) : Type 0 where
  pub in_form : IsInForm system run
  pub lawful : IsLawful system run.table
  pub scheduled : (core tick : ℕ) → core < system.cores → tick < run.table.ticks
      → IsScheduled system run.table (λ task. executed system run task tick) tick core (entry_at run core tick)
