-- Arrivals without a choice: where the least gap of a job is the greatest, each job has a position of its own.
use Rattle.std.proofs.Common.{◌≡◌, ℕ, zero, suc, ◌+◌, ◌<◌, ◌≤◌, List, [], ◌∷◌, length, ap, subst, arith}
use Rattle.cl_model.specs.declared.stimulus.StimulusKind.{StimulusKind}
use Rattle.cl_runs.specs.{declared.job.Job.Job, Pattern.{least_gap, greatest_gap}, Arrivals.{IsArrival, AreArrivalsFrom}, Table.job_at}

module _ (pattern : StimulusKind) (ticks : ℕ) where
  -- the same jobs, with the interval of the next arrival written in another way
  pub moved : (jobs : List Job) (k low high other_low other_high : ℕ) → low ≡ other_low → high ≡ other_high
      → AreArrivalsFrom pattern ticks k low high jobs → AreArrivalsFrom pattern ticks k other_low other_high jobs
  moved jobs k low high other_low other_high e f arrivals =
      subst (λ h. AreArrivalsFrom pattern ticks k other_low h jobs) f (subst (λ l. AreArrivalsFrom pattern ticks k l high jobs) e arrivals)

  pub job_moved : (low high other_low other_high : ℕ) (job : Job) → low ≡ other_low → high ≡ other_high
      → IsArrival pattern ticks low high job → IsArrival pattern ticks other_low other_high job
  job_moved low high other_low other_high job e f arrival = record {
    not_early = omega (arith, e, arrival.not_early);
    not_late = omega (arith, f, arrival.not_late);
    arrives = arrival.arrives;
    released = arrival.released;
    in_jitter = arrival.in_jitter;
  }

-- gaps without a choice: each job arrives at a position of its own
module _ (pattern : StimulusKind) (ticks : ℕ) (position : ℕ → ℕ)
    (least : (k : ℕ) → position k + least_gap pattern k ≡ position (suc k))
    (greatest : (k : ℕ) → position k + greatest_gap pattern k ≡ position (suc k)) where
  abbrev pub IsExact : ℕ → Job → Type 0
  IsExact n job = IsArrival pattern ticks (position n) (position n) job

  exact : (n k : ℕ) (job : Job) → n ≡ k → IsExact n job → IsExact k job
  exact n k job same = job_moved pattern ticks _ _ _ _ job (ap position same) (ap position same)

  next_exact : (job : Job) (jobs : List Job) (k : ℕ) → job.arrival ≡ position k
      → AreArrivalsFrom pattern ticks (suc k) (job.arrival + least_gap pattern k) (job.arrival + greatest_gap pattern k) jobs
      → AreArrivalsFrom pattern ticks (suc k) (position (suc k)) (position (suc k)) jobs
  next_exact job jobs k here =
      moved pattern ticks jobs (suc k) _ _ _ _ (omega (arith, here, least k)) (omega (arith, here, greatest k))

  pub exact_each : (jobs : List Job) (k : ℕ) → AreArrivalsFrom pattern ticks k (position k) (position k) jobs
      → (n : ℕ) → n < length jobs → IsExact (k + n) (job_at jobs n)
  exact_each [] k arrivals n h = absurd (omega arith)
  exact_each (job ∷ jobs) k arrivals zero h = exact k (k + 0) job (omega arith) arrivals.0
  exact_each (job ∷ jobs) k arrivals (suc n) h =
      exact (suc k + n) (k + suc n) (job_at jobs n) (omega arith)
      (exact_each jobs (suc k) (next_exact job jobs k (omega (arith, arrivals.0.not_early, arrivals.0.not_late)) arrivals.1) n (omega arith))

  pub exact_end : (jobs : List Job) (k : ℕ) → AreArrivalsFrom pattern ticks k (position k) (position k) jobs → ticks ≤ position (k + length jobs)
  exact_end [] k arrivals = let same : k + 0 ≡ k = omega arith in omega (arith, arrivals, ap position same)
  exact_end (job ∷ jobs) k arrivals =
      let same : suc k + length jobs ≡ k + suc (length jobs) = omega arith in
      omega (
        arith,
        exact_end jobs (suc k) (next_exact job jobs k (omega (arith, arrivals.0.not_early, arrivals.0.not_late)) arrivals.1),
        ap position same,
      )

  pub exact_back : (jobs : List Job) (k : ℕ) → ((n : ℕ) → n < length jobs → IsExact (k + n) (job_at jobs n))
      → ticks ≤ position (k + length jobs) → AreArrivalsFrom pattern ticks k (position k) (position k) jobs
  exact_back [] k each end = let same : k + 0 ≡ k = omega arith in omega (arith, end, ap position same)
  exact_back (job ∷ jobs) k each end =
      let first = exact (k + 0) k job (omega arith) (each 0 (omega arith)) in
      let here : job.arrival ≡ position k = omega (arith, first.not_early, first.not_late) in
      let same : suc k + length jobs ≡ k + suc (length jobs) = omega arith in (
        first,
        moved pattern ticks jobs (suc k) (position (suc k)) (position (suc k)) _ _ (omega (arith, here, least k)) (omega (arith, here, greatest k))
            (exact_back jobs (suc k) (λ n h. exact (k + suc n) (suc k + n) (job_at jobs n) (omega arith) (each (suc n) (omega arith)))
            (omega (arith, end, ap position same))),
      )
