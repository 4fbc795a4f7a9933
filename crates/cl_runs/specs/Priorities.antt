-- Priorities: which tasks of its core stand above a task, which below it, and which may hold its
-- core while it waits.
use Rattle.std.specs.Prelude.{ℕ, Bool, ◌==◌, ◌&&◌, nat_le, nat_lt, List, length, filter}
use Rattle.std.specs.List.{range_with_len}
use Rattle.cl_runs.specs.TaskTiming.{Timing, System, timing_at}

-- whether the other task has a higher priority on the core of the task
abbrev pub is_above : Timing → (other : Timing) → Bool
is_above task other = (other.core == task.core) && nat_lt task.priority other.priority

-- whether the other task may hold the core of the task while that waits: it is the task itself, or
-- one of lower priority
abbrev pub may_block : Timing → (other : Timing) → Bool
may_block task other = (other.core == task.core) && nat_le other.priority task.priority

-- whether the other task has a lower priority on the core of the task
abbrev pub is_below : Timing → (other : Timing) → Bool
is_below task other = (other.core == task.core) && nat_lt other.priority task.priority

-- the tasks above a task on its core, in file order
abbrev pub tasks_above : System → (task : ℕ) → List ℕ
tasks_above system task =
    filter (λ other. is_above (timing_at system task) (timing_at system other))
    (range_with_len 0 (length system.tasks))
