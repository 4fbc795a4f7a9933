-- The arrivals of a list of jobs that follow a pattern, in the words of each kind of pattern.
use Rattle.std.specs.Prelude.{◌≡◌, ℕ, suc, ◌+◌, ◌-◌, ◌*◌, ◌<◌, ◌≤◌, List, length}
use Rattle.cl_model.specs.declared.stimulus.StimulusKind.TheVariants.{Periodic, Sporadic, Burst}
use Rattle.cl_runs.specs.{declared.job.Job.Job, Arrivals.IsArrival, Table.job_at}

-- periodic: job k arrives at `offset + k * period`, and the arrival after the last one isn't below `ticks`
pub record FollowsPeriod (ticks period offset jitter : ℕ) (jobs : List Job) : Type 0 where
  pub each : (k : ℕ) → k < length jobs
      → IsArrival (Periodic period offset jitter) ticks (offset + k * period) (offset + k * period) (job_at jobs k)
  pub end : ticks ≤ offset + length jobs * period

-- sporadic: the first arrival is below `greatest`, each gap lies in [`least`, `greatest`], and no further arrival is
-- due below `ticks` after the last one, or where there is none
pub record FollowsGaps (ticks least greatest : ℕ) (jobs : List Job) : Type 0 where
  pub first : 0 < length jobs → IsArrival (Sporadic least greatest) ticks 0 (greatest - 1) (job_at jobs 0)
  pub next : (k : ℕ) → suc k < length jobs
      → IsArrival (Sporadic least greatest) ticks ((job_at jobs k).arrival + least) ((job_at jobs k).arrival + greatest) (job_at jobs (suc k))
  pub none : length jobs ≡ 0 → ticks ≤ greatest - 1
  pub end : (k : ℕ) → suc k ≡ length jobs → ticks ≤ (job_at jobs k).arrival + greatest

-- bursts: job `q * count + r` with `r < count` arrives at `offset + q * period + r * distance` and is released there,
-- and the arrival after the last one isn't below `ticks`
pub record FollowsBursts (ticks period offset count distance : ℕ) (jobs : List Job) : Type 0 where
  pub each : (q r : ℕ) → r < count → q * count + r < length jobs
      → IsArrival (Burst period offset count distance) ticks (offset + q * period + r * distance) (offset + q * period + r * distance)
      (job_at jobs (q * count + r))
  pub end : (q r : ℕ) → r < count → q * count + r ≡ length jobs → ticks ≤ offset + q * period + r * distance
