-- What the jobs that follow a pattern look like, for each kind of pattern.
use Rattle.std.proofs.Common.{◌≡◌, ℕ, zero, suc, ◌+◌, ◌-◌, ◌*◌, ◌<◌, ◌≤◌, List, [], ◌∷◌, length, refl, arith}
use Rattle.cl_model.specs.declared.stimulus.StimulusKind.{StimulusKind, TheVariants.{Periodic, Sporadic}}
use Rattle.cl_runs.specs.{declared.job.Job.Job, Arrivals.{IsArrival, AreArrivalsFrom, FollowPattern}, Table.job_at, ArrivalsByKind.{FollowsPeriod, FollowsGaps}}
use Rattle.cl_runs.proofs.ExactArrivals.{moved, job_moved, exact_each, exact_end, exact_back}

-- periodic: job k arrives k periods after the first
module _ (ticks period offset jitter : ℕ) (jobs : List Job) where
  abbrev position : ℕ → ℕ
  position k = offset + k * period

  moves : (k : ℕ) → position k + period ≡ position (suc k)
  moves k = omega arith

  pub pattern_period : FollowPattern (Periodic period offset jitter) ticks jobs → FollowsPeriod ticks period offset jitter jobs
  pattern_period follow =
      let from = moved (Periodic period offset jitter) ticks jobs 0 _ _ (position 0) (position 0) (omega arith) (omega arith) follow in
      record {
        each = λ k h. job_moved (Periodic period offset jitter) ticks (position (0 + k)) (position (0 + k)) _ _ (job_at jobs k) (omega arith) (omega arith)
            (exact_each (Periodic period offset jitter) ticks position moves moves jobs 0 from k h);
        end = omega (arith, exact_end (Periodic period offset jitter) ticks position moves moves jobs 0 from);
      }

  pub period_pattern : FollowsPeriod ticks period offset jitter jobs → FollowPattern (Periodic period offset jitter) ticks jobs
  period_pattern follows = moved (Periodic period offset jitter) ticks jobs 0 (position 0) (position 0) _ _ (omega arith) (omega arith)
      (exact_back (Periodic period offset jitter) ticks position moves moves jobs 0
      (λ k h. job_moved (Periodic period offset jitter) ticks _ _ (position (0 + k)) (position (0 + k)) (job_at jobs k) (omega arith) (omega arith) (follows.each k h))
      (omega (arith, follows.end)))

-- gaps in an interval
module _ (ticks least greatest : ℕ) where
  abbrev pattern : StimulusKind
  pattern = Sporadic least greatest

  abbrev IsNext : Job → Job → Type 0
  IsNext job next = IsArrival (Sporadic least greatest) ticks (job.arrival + least) (job.arrival + greatest) next

  first_of : (jobs : List Job) (k from to : ℕ) → AreArrivalsFrom pattern ticks k from to jobs → 0 < length jobs
      → IsArrival pattern ticks from to (job_at jobs 0)
  first_of [] k from to arrivals h = absurd (omega arith)
  first_of (job ∷ jobs) k from to arrivals h = arrivals.0

  next_of : (jobs : List Job) (k from to : ℕ) → AreArrivalsFrom pattern ticks k from to jobs → (n : ℕ) → suc n < length jobs
      → IsNext (job_at jobs n) (job_at jobs (suc n))
  next_of [] k from to arrivals n h = absurd (omega arith)
  next_of (job ∷ jobs) k from to arrivals zero h = first_of jobs (suc k) _ _ arrivals.1 (omega arith)
  next_of (job ∷ jobs) k from to arrivals (suc n) h = next_of jobs (suc k) _ _ arrivals.1 n (omega arith)

  end_of : (jobs : List Job) (k from to : ℕ) → AreArrivalsFrom pattern ticks k from to jobs → (n : ℕ) → suc n ≡ length jobs
      → ticks ≤ (job_at jobs n).arrival + greatest
  end_of [] k from to arrivals n h = absurd (omega arith)
  end_of (job ∷ []) k from to arrivals zero h = arrivals.1
  end_of (job ∷ next ∷ jobs) k from to arrivals zero h = absurd (omega arith)
  end_of (job ∷ jobs) k from to arrivals (suc n) h = end_of jobs (suc k) _ _ arrivals.1 n (omega arith)

  none_of : (jobs : List Job) (k from to : ℕ) → AreArrivalsFrom pattern ticks k from to jobs → length jobs ≡ 0 → ticks ≤ to
  none_of [] k from to arrivals h = arrivals
  none_of (job ∷ jobs) k from to arrivals h = absurd (omega arith)

  gaps_back : (jobs : List Job) (k from to : ℕ)
      → (0 < length jobs → IsArrival pattern ticks from to (job_at jobs 0))
      → ((n : ℕ) → suc n < length jobs → IsNext (job_at jobs n) (job_at jobs (suc n)))
      → (length jobs ≡ 0 → ticks ≤ to) → ((n : ℕ) → suc n ≡ length jobs → ticks ≤ (job_at jobs n).arrival + greatest)
      → AreArrivalsFrom pattern ticks k from to jobs
  gaps_back [] k from to first next none end = none refl
  gaps_back (job ∷ jobs) k from to first next none end = (
    first (omega arith),
    gaps_back jobs (suc k) (job.arrival + least) (job.arrival + greatest)
        (λ h. next 0 (omega arith)) (λ n h. next (suc n) (omega arith))
        (λ h. end 0 (omega arith)) (λ n h. end (suc n) (omega arith)),
  )

  pub pattern_gaps : (jobs : List Job) → FollowPattern pattern ticks jobs → FollowsGaps ticks least greatest jobs
  pattern_gaps jobs follow = record {
    first = first_of jobs 0 _ _ follow;
    next = next_of jobs 0 _ _ follow;
    none = none_of jobs 0 _ _ follow;
    end = end_of jobs 0 _ _ follow;
  }

  pub gaps_pattern : (jobs : List Job) → FollowsGaps ticks least greatest jobs → FollowPattern pattern ticks jobs
  gaps_pattern jobs follows = gaps_back jobs 0 0 (greatest - 1) follows.first follows.next follows.none follows.end
