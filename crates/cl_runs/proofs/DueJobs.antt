-- One more tick: the jobs of a task with one more that arrives at the old end, where one is due by then.
use Rattle.std.proofs.Common.{◌≡◌, ℕ, zero, suc, ◌+◌, ◌<◌, ◌≤◌, Bool, true, false, cond, nat_le, List, [], ◌∷◌, length, take, map, refl, sym, ap, ◌∙◌, arith}
use Rattle.std.specs.Prelude.{sum, All}
use Rattle.std.specs.List.{AllZip}
use Rattle.std.proofs.lemmas.Bool.{leb-true, leb-false, lt-leb, cond-false}
use Rattle.std.proofs.lemmas.List.Elements.{All-nil, All-cons, All-head, All-tail}
use Rattle.std.proofs.lemmas.List.Sums.{sum_by-cons}
use Rattle.cl_model.specs.declared.stimulus.StimulusKind.{StimulusKind}
use Rattle.cl_runs.specs.{Pattern.{IsPattern, first_greatest, greatest_gap}, TaskTiming.{TimeRange, Timing, IsSoundTask}, declared.job.Job.Job, Arrivals.{IsArrival, AreArrivalsFrom}, Table.{job_at, LiesIn, HasTimes, AreLawfulJobs}, Legal.released}
use Rattle.cl_runs.proofs.PatternFacts.{first_ordered, gap_positive, gaps_ordered}

-- a job that arrives at n, is released at once and takes its least times
abbrev pub due_job : Timing → ℕ → Job
due_job task n = record { arrival = n; release = n; times = map (λ (range : TimeRange). range.least) task.ranges }

-- what is due at n, where the next arrival lies at most at `high`
abbrev due : Timing → ℕ → Bool → List Job
due task n true = due_job task n ∷ []
due task n false = []

abbrev pub with_due : Timing → ℕ → ℕ → ℕ → List Job → List Job
with_due task n k high [] = due task n (nat_le high n)
with_due task n k high (job ∷ jobs) = job ∷ with_due task n (suc k) (job.arrival + greatest_gap task.pattern k) jobs

-- the jobs follow the pattern for one more tick
module _ (pattern : StimulusKind) (well : IsPattern pattern) (n : ℕ) where
  due_arrives : (task : Timing) (k low high : ℕ) (b : Bool) → nat_le high n ≡ b → low ≤ high → n ≤ high
      → AreArrivalsFrom pattern (suc n) k low high (due task n b)
  due_arrives task k low high true is ordered end =
      let reached : high ≤ n = leb-true high n is in (
        record {
          not_early = omega arith;
          not_late = end;
          arrives = omega arith;
          released = omega arith;
          in_jitter = omega arith;
        },
        omega (arith, gap_positive pattern well k, gaps_ordered pattern well k),
      )
  due_arrives task k low high false is ordered end = leb-false high n is

  job_longer : (low high : ℕ) (job : Job) → IsArrival pattern n low high job → IsArrival pattern (suc n) low high job
  job_longer low high job arrival = record {
    not_early = arrival.not_early;
    not_late = arrival.not_late;
    arrives = omega (arith, arrival.arrives);
    released = arrival.released;
    in_jitter = arrival.in_jitter;
  }

module _ (cores : ℕ) (task : Timing) (sound : IsSoundTask cores task) (n : ℕ) where
  pub with_due_arrive : (jobs : List Job) (k low high : ℕ) → low ≤ high → AreArrivalsFrom task.pattern n k low high jobs
      → AreArrivalsFrom task.pattern (suc n) k low high (with_due task n k high jobs)
  with_due_arrive [] k low high ordered arrivals = due_arrives task.pattern sound.pattern n task k low high (nat_le high n) refl ordered arrivals
  with_due_arrive (job ∷ jobs) k low high ordered arrivals = (
    job_longer task.pattern sound.pattern n low high job arrivals.0,
    with_due_arrive jobs (suc k) _ _ (omega (arith, gaps_ordered task.pattern sound.pattern k)) arrivals.1,
  )

  -- the least times are execution times of a job
  least_times : (ranges : List TimeRange) → All (λ (range : TimeRange). (1 ≤ range.least) × (range.least ≤ range.greatest)) ranges
      → AllZip LiesIn ranges (map (λ (range : TimeRange). range.least) ranges)
  least_times [] ordered = _
  least_times (range ∷ ranges) ordered = (
    (omega arith, (All-head (λ (r : TimeRange). (1 ≤ r.least) × (r.least ≤ r.greatest)) range ranges ordered).1),
    least_times ranges (All-tail (λ (r : TimeRange). (1 ≤ r.least) × (r.least ≤ r.greatest)) range ranges ordered),
  )

  due_times : (b : Bool) → All (HasTimes task) (due task n b)
  due_times true = All-cons (HasTimes task) (due_job task n) [] (least_times task.ranges sound.times) (All-nil (HasTimes task))
  due_times false = All-nil (HasTimes task)

  with_due_times : (jobs : List Job) (k high : ℕ) → All (HasTimes task) jobs → All (HasTimes task) (with_due task n k high jobs)
  with_due_times [] k high times = due_times (nat_le high n)
  with_due_times (job ∷ jobs) k high times = All-cons (HasTimes task) job (with_due task n (suc k) _ jobs)
      (All-head (HasTimes task) job jobs times) (with_due_times jobs (suc k) _ (All-tail (HasTimes task) job jobs times))

  -- the jobs are lawful for one more tick
  pub with_due_lawful : (jobs : List Job) → AreLawfulJobs task n jobs
      → AreLawfulJobs task (suc n) (with_due task n 0 (first_greatest task.pattern) jobs)
  with_due_lawful jobs lawful = record {
    arrivals = with_due_arrive jobs 0 _ _ (first_ordered task.pattern sound.pattern) lawful.arrivals;
    times = with_due_times jobs 0 (first_greatest task.pattern) lawful.times;
  }

module _ (task : Timing) (n : ℕ) where
  -- the old jobs are the first ones
  pub with_due_first : (jobs : List Job) (k high : ℕ) → jobs ≡ take (length jobs) (with_due task n k high jobs)
  with_due_first [] k high = refl
  with_due_first (job ∷ jobs) k high = ap (λ (xs : List Job). job ∷ xs) (with_due_first jobs (suc k) _)

  due_arrival : (b : Bool) (m : ℕ) → m < length (due task n b) → n ≤ (job_at (due task n b) m).arrival
  due_arrival true zero h = omega arith
  due_arrival true (suc m) h = absurd (omega arith)
  due_arrival false m h = absurd (omega arith)

  -- and each further one arrives at n
  pub with_due_later : (jobs : List Job) (k high m : ℕ) → length jobs ≤ m → m < length (with_due task n k high jobs)
      → n ≤ (job_at (with_due task n k high jobs) m).arrival
  with_due_later [] k high m past h = due_arrival (nat_le high n) m h
  with_due_later (job ∷ jobs) k high zero past h = absurd (omega arith)
  with_due_later (job ∷ jobs) k high (suc m) past h = with_due_later jobs (suc k) _ m (omega arith) (omega arith)

  due_released : (b : Bool) (t : ℕ) → t < n → released (due task n b) t ≡ 0
  unfolding released
  due_released true t h =
      let none : cond (nat_le n t) (sum (due_job task n).times) 0 ≡ 0 = cond-false (nat_le n t) (sum (due_job task n).times) 0 (lt-leb n t h) in
      omega arith
  due_released false t h = refl

  released_cons : (job : Job) (jobs : List Job) (t : ℕ) → released (job ∷ jobs) t ≡ cond (nat_le job.release t) (sum job.times) 0 + released jobs t
  unfolding released
  released_cons job jobs t = sum_by-cons (λ (j : Job). cond (nat_le j.release t) (sum j.times) 0) job jobs

  released_nil : (t : ℕ) → released [] t ≡ 0
  unfolding released
  released_nil t = refl

  -- before n as much is released as before
  pub with_due_released : (jobs : List Job) (k high t : ℕ) → t < n → released (with_due task n k high jobs) t ≡ released jobs t
  with_due_released [] k high t h = due_released (nat_le high n) t h ∙ sym (released_nil t)
  with_due_released (job ∷ jobs) k high t h =
      omega (
        arith,
        released_cons job (with_due task n (suc k) (job.arrival + greatest_gap task.pattern k) jobs) t,
        released_cons job jobs t,
        with_due_released jobs (suc k) (job.arrival + greatest_gap task.pattern k) t h,
      )
