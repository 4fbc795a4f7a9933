-- Systems whose runnables have the same least times.
use Rattle.std.specs.Prelude.{◌≡◌, ℕ, List, map}
use Rattle.cl_runs.specs.TaskTiming.{TimeRange, Timing, System, timing_at}
use Rattle.cl_cycle.specs.DifferingRunnables.{DifferInRunnables}

-- the least times of the runnables of a task, in the order in which a job executes them
abbrev pub least_of_each : Timing → List ℕ
least_of_each task = map (λ (range : TimeRange). range.least) task.ranges

-- the tasks of two systems differ in no more than the greatest times of their runnables, and in which of these are whole
pub record HaveSameLeastTimes (one other : System) : Type 0 where
  pub alike : DifferInRunnables one other
  pub least : (i : ℕ) → least_of_each (timing_at one i) ≡ least_of_each (timing_at other i)
