-- Runs of some cores alone, whose other cores idle. What they show of a task is so in a legal run of the whole system.
use Rattle.std.specs.Prelude.{◌≡◌, ℕ, ◌<◌, Bool, true, false, List, [], length, slice_index_or}
use Rattle.cl_model.specs.{declared.group.Group.Group, Groups.group_at}
use Rattle.cl_runs.specs.{TaskTiming.{System, timing_at}, declared.job.JobTable.JobTable, Table.{table_jobs, AreLawfulJobs}, Run.{Run, jobs_of, core_entries, entry_at, executed, IsInForm}, Legal.{IsScheduled, IsLegal}}

-- whether a core is among some, which are marked by their numbers
abbrev pub is_among : (cores : List Bool) → (core : ℕ) → Bool
is_among cores core = slice_index_or cores core false

-- a table is lawful on some cores: it has lawful jobs of each task of these
pub record IsLawfulOn (system : System) (cores : List Bool) (table : JobTable) : Type 0 where
  pub tasks : length table.jobs ≡ length system.tasks
  pub jobs : (task : ℕ) → task < length system.tasks → is_among cores (timing_at system task).core ≡ true
      → AreLawfulJobs (timing_at system task) table.ticks (table_jobs table task)

-- tasks of other cores than these have no jobs
abbrev pub HasNoOtherJobs : System → (cores : List Bool) → JobTable → Type 0
HasNoOtherJobs system cores table =
    (task : ℕ) → task < length system.tasks → is_among cores (timing_at system task).core ≡ false → table_jobs table task ≡ []

-- a run is legal on some cores: in form, with a table that is lawful on these, and each of their entries is the one that
-- is scheduled
pub record IsLegalOn (system : System) (cores : List Bool) (run : Run) : Type 0 where
  pub in_form : IsInForm system run
  pub lawful : IsLawfulOn system cores run.table
  pub scheduled : (core tick : ℕ) → core < system.cores → is_among cores core ≡ true → tick < run.table.ticks
      → IsScheduled system run.table (λ task. executed system run task tick) tick core (entry_at run core tick)

-- two runs are alike on a core: as long, with the same entries there and the same jobs of its tasks
pub record AreAlikeOn (system : System) (core : ℕ) (one other : Run) : Type 0 where
  pub ticks : one.table.ticks ≡ other.table.ticks
  pub entries : core_entries one core ≡ core_entries other core
  pub jobs : (task : ℕ) → task < length system.tasks → (timing_at system task).core ≡ core → jobs_of one task ≡ jobs_of other task

-- what a run shows of some cores is so in one legal run, the whole of which it is a part
pub record HasWhole (system : System) (cores : List Bool) (part : Run) : Type 0 where
  pub whole : Run
  pub legal : IsLegal system whole
  pub alike : (core : ℕ) → core < system.cores → is_among cores core ≡ true → AreAlikeOn system core part whole

-- what a run shows of a task is so in a legal run
pub record ShowsTask (system : System) (task : ℕ) (run : Run) : Type 0 where
  pub whole : Run
  pub legal : IsLegal system whole
  pub alike : AreAlikeOn system (timing_at system task).core run whole

-- what it shows of the tasks of some groups is so in one legal run
pub record ShowsGroups (system : System) (groups : List Group) (run : Run) : Type 0 where
  pub whole : Run
  pub legal : IsLegal system whole
  pub alike : (place : ℕ) → place < length groups → AreAlikeOn system (timing_at system (group_at groups place).task).core run whole
