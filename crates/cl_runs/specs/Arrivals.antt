-- Which lists of jobs arrive and are released as a pattern says. Execution times play no part.
use Rattle.std.specs.Prelude.{ℕ, suc, ◌+◌, ◌<◌, ◌≤◌, List, [], ◌∷◌}
use Rattle.cl_model.specs.{declared.stimulus.StimulusKind.StimulusKind, Timing.greatest_jitter}
use Rattle.cl_runs.specs.{declared.job.Job.Job, Pattern.{first_least, first_greatest, least_gap, greatest_gap}}

-- a job that arrives in [low, high] and in the first `ticks` ticks, and is released within the jitter of its arrival
pub record IsArrival (pattern : StimulusKind) (ticks low high : ℕ) (job : Job) : Type 0 where
  pub not_early : low ≤ job.arrival
  pub not_late : job.arrival ≤ high
  pub arrives : job.arrival < ticks
  pub released : job.arrival ≤ job.release
  pub in_jitter : job.release ≤ job.arrival + greatest_jitter pattern

-- the jobs from number k on, where the next arrival lies in [low, high]: each arrives in its interval, and
-- after the last one no further arrival is due below `ticks`
abbrev pub AreArrivalsFrom : StimulusKind → (ticks k low high : ℕ) → List Job → Type 0
AreArrivalsFrom pattern ticks k low high [] = ticks ≤ high
AreArrivalsFrom pattern ticks k low high (job ∷ jobs) = IsArrival pattern ticks low high job
    × AreArrivalsFrom pattern ticks (suc k) (job.arrival + least_gap pattern k) (job.arrival + greatest_gap pattern k) jobs

-- the jobs arrive and are released in one of the ways to follow the pattern for `ticks` ticks
abbrev pub FollowPattern : StimulusKind → (ticks : ℕ) → List Job → Type 0
FollowPattern pattern ticks jobs = AreArrivalsFrom pattern ticks 0 (first_least pattern) (first_greatest pattern) jobs
