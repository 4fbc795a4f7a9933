-- How long a job of a task takes at most.
use Rattle.std.specs.Prelude.{ℕ, sum_by}
use Rattle.cl_runs.specs.TaskTiming.{TimeRange, Timing}

-- the greatest execution time of a job of a task
unfoldable pub greatest_execution : Timing → ℕ
greatest_execution task = sum_by (λ (range : TimeRange). range.greatest) task.ranges
