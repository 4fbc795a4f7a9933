-- Systems in which a task, and what it waits for, takes less time.
use Rattle.std.specs.Prelude.{◌≡◌, ℕ, ◌≤◌, true}
use Rattle.cl_runs.specs.{TaskTiming.{System, timing_at}, Priorities.is_above, ExecutionTimes.greatest_execution}
use Rattle.cl_cycle.specs.DifferingRunnables.{DifferInRunnables}
use Rattle.cl_resp.specs.Question.{lower_block_of}

-- two systems differ in runnables alone, and of these a task, what blocks it and each task above it take at most as long
-- in one as in the other
pub record TakesNoMore (less more : System) (task : ℕ) : Type 0 where
  pub alike : DifferInRunnables less more
  pub own : greatest_execution (timing_at less task) ≤ greatest_execution (timing_at more task)
  pub block : lower_block_of less (timing_at less task) ≤ lower_block_of more (timing_at more task)
  pub above : (other : ℕ) → is_above (timing_at more task) (timing_at more other) ≡ true
      → greatest_execution (timing_at less other) ≤ greatest_execution (timing_at more other)
