-- How a run is followed on a core, from stretch to stretch.
use Rattle.std.specs.Prelude.{◌≡◌, ℕ, ◌<◌, ◌≤◌, ◌⊎◌, Result, Ok, Err, take}
use Rattle.cl_runs.specs.{TaskTiming.System, Legal.IsLegal, Run.{Run, core_entries, entry_at}}
use Rattle.cl_run_data.specs.declared.stretches.Stretch.{Stretch}
use Rattle.cl_sched.specs.{declared.core_progress.CoreProgress.CoreProgress, CoreProgress.IsReached}
use Rattle.cl_check.specs.{declared.run_fault.RunFault.{RunFault, TheVariants.NoMemory}, Legality.{IsScheduleKept, BreaksCore, BreaksSchedule, IsFirstBroken}}

-- a core of a run is reached, and did what is scheduled before
pub record IsFollowed (system : System) (run : Run) (core : ℕ) (reached : CoreProgress) : Type 0 where
  pub reached_is : IsReached system run.table core (take reached.tick (core_entries run core)) reached
  pub kept : (t : ℕ) → t < reached.tick → IsScheduleKept system run core t

-- the entries of a core from a tick on are those of a stretch, to its end
pub record Lasts (run : Run) (core tick : ℕ) (stretch : Stretch) : Type 0 where
  pub ahead : tick ≤ stretch.end
  pub within : stretch.end ≤ run.table.ticks
  pub entries : (t : ℕ) → tick ≤ t → t < stretch.end → entry_at run core t ≡ stretch.who

-- a core was followed to an end, or its first fault was found
abbrev pub Follows : {X : Type 0} → System → Run → (core end : ℕ) → Result X RunFault → CoreProgress → Type 0
Follows system run core end (Ok done) reached = IsFollowed system run core reached × (reached.tick ≡ end)
Follows system run core end (Err fault) reached = BreaksCore system run core fault

-- a core executes in each tick what is scheduled, or the fault is its first one, or want of memory
abbrev pub ChecksCore : {X : Type 0} → System → Run → (core : ℕ) → Result X RunFault → Type 0
ChecksCore system run core (Ok done) = (t : ℕ) → t < run.table.ticks → IsScheduleKept system run core t
ChecksCore system run core (Err fault) = (fault ≡ NoMemory) ⊎ BreaksCore system run core fault

-- each core executes in each tick what is scheduled, or the fault is that of the first one that doesn't, or want of
-- memory
abbrev pub ChecksCores : {X : Type 0} → System → Run → Result X RunFault → Type 0
ChecksCores system run (Ok done) = (core t : ℕ) → core < system.cores → t < run.table.ticks → IsScheduleKept system run core t
ChecksCores system run (Err fault) = (fault ≡ NoMemory) ⊎ BreaksSchedule system run fault

-- a run is legal, or the fault is its first broken rule, or want of memory
abbrev pub ChecksRun : {X : Type 0} → System → Run → Result X RunFault → Type 0
ChecksRun system run (Ok done) = IsLegal system run
ChecksRun system run (Err fault) = (fault ≡ NoMemory) ⊎ IsFirstBroken system run fault
