-- How the tasks of a run are put apart, core by core and stretch by stretch.
use Rattle.std.specs.Prelude.{◌≡◌, ℕ, Option, Some, None, ◌-◌, ◌<◌, ◌≤◌, List, [], ◌++◌, length, replicate, take, slice_set}
use Rattle.cl_runs.specs.{TaskTiming.{System, timing_at}, Run.{Run, core_entries}}
use Rattle.cl_check.specs.Apart.{RunsAlike}

-- entries with idle ticks behind them up to a tick, and with the ticks of a task from there on
abbrev pub with_ticks : List (Option ℕ) → (task from to : ℕ) → List (Option ℕ)
with_ticks entries task from to = (entries ++ replicate (from - length entries) None) ++ replicate (to - from) (Some task)

-- the list of a task was replaced, and nothing else
pub record HasList (old new : Run) (task : ℕ) (entries : List (Option ℕ)) : Type 0 where
  pub table : new.table ≡ old.table
  pub entries_are : new.entries ≡ slice_set old.entries task entries

-- a task got the ticks of a stretch, and nothing changed where none runs
abbrev pub HasTicks : Option ℕ → (from to : ℕ) → (old new : Run) → Type 0
HasTicks None from to old new = new ≡ old
HasTicks (Some task) from to old new = HasList old new task (with_ticks (core_entries old task) task from to)

-- a list may get the ticks of a stretch
pub record MayGetTicks (run : Run) (from to task : ℕ) : Type 0 where
  pub is_task : task < length run.entries
  pub after : length (core_entries run task) ≤ from

abbrev pub TakesTicks : Option ℕ → (from to : ℕ) → Run → Type 0
TakesTicks None from to run = Unit {0}
TakesTicks (Some task) from to run = MayGetTicks run from to task

-- the tasks of the cores before one stand apart, and those of that core up to a tick
pub record AreApartUpTo (system : System) (run : Run) (core end : ℕ) (apart : Run) : Type 0 where
  pub ticks : apart.table.ticks ≡ run.table.ticks
  pub tasks : length apart.entries ≡ length system.tasks
  pub before : (task : ℕ) → task < length system.tasks → (timing_at system task).core < core
      → RunsAlike task (core_entries apart task) (core_entries run (timing_at system task).core) × (length (core_entries apart task) ≤ run.table.ticks)
  pub here : (task : ℕ) → task < length system.tasks → (timing_at system task).core ≡ core
      → RunsAlike task (core_entries apart task) (take end (core_entries run core)) × (length (core_entries apart task) ≤ end)
  pub later : (task : ℕ) → task < length system.tasks → core < (timing_at system task).core → core_entries apart task ≡ []
