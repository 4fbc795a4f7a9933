-- What is drawn for a job, kind by kind.
use Rattle.std.proofs.Common.{◌≡◌, ℕ, zero, suc, ◌+◌, ◌-◌, ◌*◌, ◌/◌, ◌%◌, List, length, refl, ap, ◌∙◌, arith}
use Rattle.cl_model.specs.declared.stimulus.StimulusKind.TheVariants.{Periodic, Sporadic, Burst}
use Rattle.cl_runs.specs.{Pattern.IsPattern, TaskTiming.TimeRange}
use Rattle.cl_runs.proofs.BurstPlaces.{position_of, position_place, position_gap}
use Rattle.cl_gen.specs.{Words.draw, Drawn.{drawn_times, drawn_arrival, drawn_job}, DrawnByKind.IsDrawnAs}

module _ (word : ℕ → ℕ) (from : ℕ) (ranges : List TimeRange) where
  periodic_arrival : (period offset jitter k : ℕ) → drawn_arrival word from (Periodic period offset jitter) ranges k ≡ offset + k * period
  unfolding drawn_arrival
  periodic_arrival period offset jitter zero = omega arith
  periodic_arrival period offset jitter (suc k) = omega (arith, periodic_arrival period offset jitter k)

  pub periodic_job : (period offset jitter k : ℕ)
      → IsDrawnAs word ranges (drawn_job word from (Periodic period offset jitter) ranges k) (offset + k * period)
      (draw 0 jitter (word (from + k * (1 + length ranges)))) (from + k * (1 + length ranges) + 1)
  unfolding drawn_job
  periodic_job period offset jitter k =
      let n = from + k * (1 + length ranges) in
      let first : n + 0 ≡ n = omega arith in
      record {
        arrives = periodic_arrival period offset jitter k;
        is_released = omega (arith, periodic_arrival period offset jitter k, ap (λ m. draw 0 jitter (word m)) first);
        times_are = ap (λ m. drawn_times word (m + 1) ranges) first;
      }

  -- the times of a sporadic job stand behind the word for its arrival
  sporadic_job : (least greatest k arrival : ℕ) → drawn_arrival word from (Sporadic least greatest) ranges k ≡ arrival
      → IsDrawnAs word ranges (drawn_job word from (Sporadic least greatest) ranges k) arrival 0 (from + k * (1 + length ranges) + 1)
  unfolding drawn_job
  sporadic_job least greatest k arrival is =
      let last : from + k * (1 + length ranges) + 1 + 0 ≡ from + k * (1 + length ranges) + 1 = omega arith in
      record {
        arrives = is;
        is_released = omega (arith, is);
        times_are = ap (λ m. drawn_times word m ranges) last;
      }

  pub first_sporadic_job : (least greatest : ℕ)
      → IsDrawnAs word ranges (drawn_job word from (Sporadic least greatest) ranges 0) (draw 0 (greatest - 1) (word from)) 0 (from + 1)
  unfolding drawn_arrival
  first_sporadic_job least greatest =
      let none : from + 0 * (1 + length ranges) ≡ from = omega arith in
      let job = sporadic_job least greatest 0 (draw 0 (greatest - 1) (word from)) refl in
      record {
        arrives = job.arrives;
        is_released = job.is_released;
        times_are = job.times_are ∙ ap (λ m. drawn_times word (m + 1) ranges) none;
      }

  pub next_sporadic_job : (least greatest k : ℕ)
      → IsDrawnAs word ranges (drawn_job word from (Sporadic least greatest) ranges (suc k))
      ((drawn_job word from (Sporadic least greatest) ranges k).arrival + draw least greatest (word (from + suc k * (1 + length ranges))))
      0 (from + suc k * (1 + length ranges) + 1)
  unfolding drawn_arrival drawn_job
  next_sporadic_job least greatest k = sporadic_job least greatest (suc k) _ refl

  burst_arrival : (period offset count distance : ℕ) → IsPattern (Burst period offset count distance) → (k : ℕ)
      → drawn_arrival word from (Burst period offset count distance) ranges k ≡ position_of period offset count distance k
  unfolding drawn_arrival
  burst_arrival period offset count distance well zero =
      omega (arith, position_place period offset count distance 0 0 0 (omega arith) (omega (arith, well.0)))
  burst_arrival period offset count distance well (suc k) =
      omega (arith, burst_arrival period offset count distance well k, position_gap period offset count distance well k)

  pub burst_job : (period offset count distance : ℕ) → IsPattern (Burst period offset count distance) → (k : ℕ)
      → IsDrawnAs word ranges (drawn_job word from (Burst period offset count distance) ranges k)
      (offset + k / count * period + k % count * distance) 0 (from + k * length ranges)
  unfolding drawn_job
  burst_job period offset count distance well k =
      let all : 0 + length ranges ≡ length ranges = omega arith in
      let first : from + k * (0 + length ranges) + 0 + 0 ≡ from + k * length ranges = omega (arith, ap (λ m. k * m) all) in
      record {
        arrives = burst_arrival period offset count distance well k;
        is_released = omega (arith, burst_arrival period offset count distance well k);
        times_are = ap (λ m. drawn_times word m ranges) first;
      }
