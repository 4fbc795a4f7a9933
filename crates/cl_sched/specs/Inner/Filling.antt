-- Which entries of a run are filled with what is scheduled.
use Rattle.std.specs.Prelude.{◌≡◌, ◌≢◌, ℕ, Bool, true, false, Option, None, ◌<◌, List, length, replicate, slice_index_or, take}
use Rattle.cl_runs.specs.{TaskTiming.System, declared.job.JobTable.JobTable, Run.{Run, core_entries}, Legal.IsScheduled}
use Rattle.cl_sched.specs.CoreProgress.{ticks_of}

-- each entry of a core is the one that is scheduled after the entries before it
abbrev pub AreScheduled : System → JobTable → (core : ℕ) → List (Option ℕ) → Type 0
AreScheduled system table core entries = (tick : ℕ) → tick < length entries
    → IsScheduled system table (ticks_of (take tick entries)) tick core (slice_index_or entries tick None)

-- a core has an entry per tick of the table, each the one that is scheduled
pub record IsFilled (system : System) (run : Run) (core : ℕ) : Type 0 where
  pub ticks : length (core_entries run core) ≡ run.table.ticks
  pub scheduled : AreScheduled system run.table core (core_entries run core)

-- a core was filled, and the others are as they were
pub record HasFilled (system : System) (core : ℕ) (old new : Run) : Type 0 where
  pub table : new.table ≡ old.table
  pub cores : length new.entries ≡ length old.entries
  pub others : (other : ℕ) → other ≢ core → core_entries new other ≡ core_entries old other
  pub filled : IsFilled system new core

-- a core is filled where it is to be, and else it idles in each tick
abbrev pub IsFilledIf : (fills : Bool) → System → Run → (core : ℕ) → Type 0
IsFilledIf true system run core = IsFilled system run core
IsFilledIf false system run core = core_entries run core ≡ replicate run.table.ticks None

-- a core was filled where it was to be, and else idles, and the others are as they were
pub record HasFilledIf (fills : Bool) (system : System) (core : ℕ) (old new : Run) : Type 0 where
  pub table : new.table ≡ old.table
  pub cores : length new.entries ≡ length old.entries
  pub others : (other : ℕ) → other ≢ core → core_entries new other ≡ core_entries old other
  pub filled : IsFilledIf fills system new core
