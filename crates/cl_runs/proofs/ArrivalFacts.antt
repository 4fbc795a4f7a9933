-- What holds of the jobs that follow a pattern: how far their arrivals lie apart, and that none is missing.
use Rattle.std.proofs.Common.{◌≡◌, ℕ, zero, suc, ◌+◌, ◌<◌, ◌≤◌, inl, inr, List, [], ◌∷◌, length, arith}
use Rattle.std.proofs.lemmas.Bool.{cases_lt}
use Rattle.cl_model.specs.{declared.stimulus.StimulusKind.StimulusKind, Timing.{least_distance, greatest_distance, greatest_jitter}}
use Rattle.cl_runs.specs.{declared.job.Job.Job, Pattern.IsPattern, Arrivals.{IsArrival, AreArrivalsFrom, FollowPattern}, Table.job_at}
use Rattle.cl_runs.proofs.PatternFacts.{distance_positive, least_within, greatest_within}

-- an arrival is one whose tick lies in some interval
pub record Arrives (pattern : StimulusKind) (ticks : ℕ) (job : Job) : Type 0 where
  pub low : ℕ
  pub high : ℕ
  pub arrival : IsArrival pattern ticks low high job

module _ (pattern : StimulusKind) (ticks : ℕ) where
  pub arrival_at : (jobs : List Job) (k low high : ℕ) → AreArrivalsFrom pattern ticks k low high jobs
      → (n : ℕ) → n < length jobs → Arrives pattern ticks (job_at jobs n)
  arrival_at [] k low high arrivals n h = absurd (omega arith)
  arrival_at (job ∷ jobs) k low high arrivals zero h = record { low = low; high = high; arrival = arrivals.0 }
  arrival_at (job ∷ jobs) k low high arrivals (suc n) h = arrival_at jobs (suc k) _ _ arrivals.1 n (omega arith)

  -- no job arrives before the interval begins
  pub not_before : (jobs : List Job) (k low high : ℕ) → AreArrivalsFrom pattern ticks k low high jobs
      → (n : ℕ) → n < length jobs → low ≤ (job_at jobs n).arrival
  not_before [] k low high arrivals n h = absurd (omega arith)
  not_before (job ∷ jobs) k low high arrivals zero h = arrivals.0.not_early
  not_before (job ∷ jobs) k low high arrivals (suc n) h =
      omega (arith, arrivals.0.not_early, not_before jobs (suc k) _ _ arrivals.1 n (omega arith))

  module _ (well : IsPattern pattern) where
    apart_from : (jobs : List Job) (k low high : ℕ) → AreArrivalsFrom pattern ticks k low high jobs
        → (m n : ℕ) → m < n → n < length jobs → (job_at jobs m).arrival + least_distance pattern ≤ (job_at jobs n).arrival
    apart_from [] k low high arrivals m n h below = absurd (omega arith)
    apart_from (job ∷ jobs) k low high arrivals m zero h below = absurd (omega arith)
    apart_from (job ∷ jobs) k low high arrivals zero (suc n) h below =
        omega (arith, least_within pattern well k, not_before jobs (suc k) _ _ arrivals.1 n (omega arith))
    apart_from (job ∷ jobs) k low high arrivals (suc m) (suc n) h below =
        apart_from jobs (suc k) _ _ arrivals.1 m n (omega arith) (omega arith)

    next_from : (jobs : List Job) (k low high : ℕ) → AreArrivalsFrom pattern ticks k low high jobs
        → (n : ℕ) → suc n < length jobs → (job_at jobs (suc n)).arrival ≤ (job_at jobs n).arrival + greatest_distance pattern
    next_from [] k low high arrivals n h = absurd (omega arith)
    next_from (job ∷ []) k low high arrivals n h = absurd (omega arith)
    next_from (job ∷ next ∷ jobs) k low high arrivals zero h = omega (arith, greatest_within pattern well k, arrivals.1.0.not_late)
    next_from (job ∷ next ∷ jobs) k low high arrivals (suc n) h = next_from (next ∷ jobs) (suc k) _ _ arrivals.1 n (omega arith)

    end_from : (jobs : List Job) (k low high : ℕ) → AreArrivalsFrom pattern ticks k low high jobs
        → (n : ℕ) → suc n ≡ length jobs → ticks ≤ (job_at jobs n).arrival + greatest_distance pattern
    end_from [] k low high arrivals n h = absurd (omega arith)
    end_from (job ∷ []) k low high arrivals zero h = omega (arith, arrivals.1, greatest_within pattern well k)
    end_from (job ∷ next ∷ jobs) k low high arrivals zero h = absurd (omega arith)
    end_from (job ∷ jobs) k low high arrivals (suc n) h = end_from jobs (suc k) _ _ arrivals.1 n (omega arith)

-- ---- the jobs of a whole list

module _ (pattern : StimulusKind) (well : IsPattern pattern) (ticks : ℕ) (jobs : List Job) (follow : FollowPattern pattern ticks jobs) where
  -- each later job arrives at least the least distance later
  pub arrivals_apart : (k l : ℕ) → k < l → l < length jobs → (job_at jobs k).arrival + least_distance pattern ≤ (job_at jobs l).arrival
  arrivals_apart = apart_from pattern ticks well jobs 0 _ _ follow

  -- hence arrivals rise
  pub arrivals_rise : (k l : ℕ) → k < l → l < length jobs → (job_at jobs k).arrival < (job_at jobs l).arrival
  arrivals_rise k l h below = omega (arith, arrivals_apart k l h below, distance_positive pattern well)

  -- the next job arrives within the greatest distance
  pub next_within : (k : ℕ) → suc k < length jobs → (job_at jobs (suc k)).arrival ≤ (job_at jobs k).arrival + greatest_distance pattern
  next_within = next_from pattern ticks well jobs 0 _ _ follow

  -- after the last job no more than the greatest distance is left
  pub end_within : (k : ℕ) → suc k ≡ length jobs → ticks ≤ (job_at jobs k).arrival + greatest_distance pattern
  end_within = end_from pattern ticks well jobs 0 _ _ follow

  -- hence there is a next job where the greatest distance ends below `ticks`
  pub next_due : (k : ℕ) → k < length jobs → (job_at jobs k).arrival + greatest_distance pattern < ticks → suc k < length jobs
  next_due k h early = elim (cases_lt (suc k) (length jobs)) [
    | inl further ↦ further
    | inr last ↦ absurd (omega (arith, early, end_within k (omega (arith, h, last))))
  ]

-- releases lie within the jitter
module _ (pattern : StimulusKind) (ticks : ℕ) (jobs : List Job) (follow : FollowPattern pattern ticks jobs) where
  pub job_arrives : (k : ℕ) → k < length jobs → Arrives pattern ticks (job_at jobs k)
  job_arrives = arrival_at pattern ticks jobs 0 _ _ follow

  pub arrives_below : (k : ℕ) → k < length jobs → (job_at jobs k).arrival < ticks
  arrives_below k h = let job = job_arrives k h in job.arrival.arrives

  pub released_late : (k : ℕ) → k < length jobs → (job_at jobs k).arrival ≤ (job_at jobs k).release
  released_late k h = let job = job_arrives k h in job.arrival.released

  pub released_within : (k : ℕ) → k < length jobs → (job_at jobs k).release ≤ (job_at jobs k).arrival + greatest_jitter pattern
  released_within k h = let job = job_arrives k h in job.arrival.in_jitter
