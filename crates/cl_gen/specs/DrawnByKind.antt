-- What is drawn for a job, said of each kind of stimulus.
use Rattle.std.specs.Prelude.{◌≡◌, ℕ, ◌+◌, List}
use Rattle.cl_runs.specs.{declared.job.Job.Job, TaskTiming.TimeRange}
use Rattle.cl_gen.specs.Drawn.{drawn_times}

-- a job arrives at a tick, is released so much later, and its times are drawn by word n and those after it
pub record IsDrawnAs (word : ℕ → ℕ) (ranges : List TimeRange) (job : Job) (arrival delay n : ℕ) : Type 0 where
  pub arrives : job.arrival ≡ arrival
  pub is_released : job.release ≡ arrival + delay
  pub times_are : job.times ≡ drawn_times word n ranges
