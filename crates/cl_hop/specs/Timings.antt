-- Timings of groups that hold in every legal run: each job reads and writes in the window that its timing says.
use Rattle.std.specs.Prelude.{◌≡◌, ℕ, ◌+◌, ◌<◌, ◌≤◌, length}
use Rattle.cl_model.specs.{declared.group.Group.Group, Timing.{greatest_distance, greatest_jitter}, Kinds.is_timed}
use Rattle.cl_runs.specs.{TaskTiming.{System, timing_at}, Table.job_at, Run.{Run, jobs_of}, Legal.IsLegal, Moments.{Reads, Writes}}
use Rattle.cl_hop.specs.declared.group_timing.GroupTiming.{GroupTiming}

-- a group of a system: runnables of one of its tasks, of which the first doesn't stand behind the last
pub record IsGroupOfTask (system : System) (group : Group) : Type 0 where
  pub is_task : group.task < length system.tasks
  pub ordered : group.first ≤ group.last
  pub is_runnable : group.last < length (timing_at system group.task).ranges

-- a timing is that of a group but for its window, whatever that is: where its task runs and how it accesses labels, and
-- how its jobs arrive
pub record IsTimingOf (system : System) (group : Group) (timing : GroupTiming) : Type 0 where
  pub task : timing.task ≡ group.task
  pub core : timing.core ≡ (timing_at system group.task).core
  pub priority : timing.priority ≡ (timing_at system group.task).priority
  pub is_timed : timing.is_timed ≡ is_timed (timing_at system group.task).access
  pub jitter : timing.jitter ≡ greatest_jitter (timing_at system group.task).pattern
  pub distance : timing.distance ≡ greatest_distance (timing_at system group.task).pattern

-- in a run each job of a group reads at the earliest read of its window or later, and where the run lasts until the
-- latest write, it has written by then
pub record KeepsWindow (system : System) (group : Group) (timing : GroupTiming) (run : Run) : Type 0 where
  pub reads : (job tick : ℕ) → Reads system run group.task job group.first tick
      → (job_at (jobs_of run group.task) job).arrival + timing.read ≤ tick
  pub writes : (job : ℕ) → job < length (jobs_of run group.task)
      → (job_at (jobs_of run group.task) job).arrival + timing.write ≤ run.table.ticks
      → (tick : ℕ) × Writes system run group.task job group.last tick
      × (tick ≤ (job_at (jobs_of run group.task) job).arrival + timing.write)

-- a timing of a group of a system always holds: its window is kept in every legal run, of any length. (Jobs of a timed
-- task that is late don't write, so no timing of it holds.)
pub record AlwaysKeeps (system : System) (group : Group) (timing : GroupTiming) : Type 0 where
  pub is_group : IsGroupOfTask system group
  pub of_group : IsTimingOf system group timing
  pub always : (run : Run) → IsLegal system run → KeepsWindow system group timing run
