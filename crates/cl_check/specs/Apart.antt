-- A run whose tasks stand apart: each has a list of its own.
use Rattle.std.specs.Prelude.{◌≡◌, ℕ, Option, None, ◌<◌, ◌≤◌, List, length, slice_index_or}
use Rattle.cl_runs.specs.{TaskTiming.{System, timing_at}, Run.{Run, core_entries, is_task}}

-- a task runs in the same ticks of two lists of entries
abbrev pub RunsAlike : (task : ℕ) (one other : List (Option ℕ)) → Type 0
RunsAlike task one other = (tick : ℕ) → is_task task (slice_index_or one tick None) ≡ is_task task (slice_index_or other tick None)

-- each task has a list of its own, in which it runs in the same ticks as on its core
pub record StandApart (system : System) (run apart : Run) : Type 0 where
  pub tasks : length apart.entries ≡ length system.tasks
  pub within : (task : ℕ) → task < length system.tasks → length (core_entries apart task) ≤ run.table.ticks
  pub alike : (task : ℕ) → task < length system.tasks
      → RunsAlike task (core_entries apart task) (core_entries run (timing_at system task).core)
