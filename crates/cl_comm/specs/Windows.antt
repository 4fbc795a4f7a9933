-- The window of a runnable: when it reads and writes, counted from the arrival of its job.
use Rattle.std.specs.Prelude.{ℕ, suc, ◌+◌, ◌-◌, List, take, drop, sum_by}
use Rattle.cl_model.specs.declared.task.AccessKind.{AccessKind, TheVariants.{Explicit, Implicit, Timed}}
use Rattle.cl_runs.specs.TaskTiming.{TimeRange, Timing, range_at}
use Rattle.cl_comm.specs.declared.spot.{Spot.Spot, Window.Window}

-- the sum of the least times of runnables
unfoldable pub least_times : List TimeRange → ℕ
least_times ranges = sum_by (λ (range : TimeRange). range.least) ranges

-- the spot of runnable p of a task: the least times before it, its own, and those after it, with the task's deadline
unfoldable pub spot_at : Timing → (p : ℕ) → Spot
spot_at task p = record {
  before = least_times (take p task.ranges);
  own = (range_at task p).least;
  after = least_times (drop (suc p) task.ranges);
  deadline = task.deadline;
}

-- the window of a runnable at a spot, where its job finishes within the response: it reads `rlo` after the arrival of
-- its job or later, and writes `wlo` to `whi` after it
abbrev pub window_of : AccessKind → Spot → (response : ℕ) → Window
window_of Explicit spot response = record { rlo = spot.before; wlo = spot.before + spot.own; whi = response - spot.after }
window_of Implicit spot response = record { rlo = 0; wlo = spot.before + spot.own + spot.after; whi = response }
window_of Timed spot response = record { rlo = 0; wlo = spot.deadline; whi = spot.deadline }

-- the window of runnable p of a task
abbrev pub window_at : Timing → (p response : ℕ) → Window
window_at task p response = window_of task.access (spot_at task p) response
