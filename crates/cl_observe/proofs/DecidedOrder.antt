-- Whether a run is in order can be decided.
use Rattle.std.proofs.Common.{ℕ, zero, suc, ◌<◌, ◌≤◌, inl, inr, List, [], ◌∷◌, length, sym, subst, arith}
use Rattle.std.specs.Prelude.{All}
use Rattle.std.proofs.lemmas.Bool.{cases_eq}
use Rattle.std.proofs.lemmas.List.Elements.{All-nil, All-cons, All-head, All-tail}
use Rattle.cl_runs.specs.{declared.job.Job.Job, Table.job_at, TaskTiming.System, Run.{Run, jobs_of}}
use Rattle.cl_runs.proofs.FirstBelow.{both_or_not}
use Rattle.cl_check.specs.InOrder.{AreTimesPositive, DoArrivalsRise, AreJobsInOrder, IsRunInOrder}
use Rattle.cl_chain.proofs.DecidedMoments.{Decided, lt_or_not}

-- ---- of all numbers below one, and of all of a list

below_or_not : (P : ℕ → Type 0) → ((k : ℕ) → Decided (P k)) → (n : ℕ) → Decided ((k : ℕ) → k < n → P k)
below_or_not P decided zero = inl (λ k lt. absurd (omega (arith, lt)))
below_or_not P decided (suc n) = by_last (below_or_not P decided n) (decided n)
  where
    by_last : Decided ((k : ℕ) → k < n → P k) → Decided (P n) → Decided ((k : ℕ) → k < suc n → P k)
    by_last (inl before) (inl here) = inl (λ k lt. elim (cases_eq k n) [
      | inl last ↦ subst P (sym last) here
      | inr less ↦ before k (omega (arith, lt, less))
    ])
    by_last (inl before) (inr not) = inr (λ all. not (all n (omega arith)))
    by_last (inr not) here = inr (λ all. not (λ k lt. all k (omega (arith, lt))))

each_or_not : {X : Type 0} (P : X → Type 0) → ((x : X) → Decided (P x)) → (xs : List X) → Decided (All P xs)
each_or_not P decided [] = inl (All-nil P)
each_or_not P decided (x ∷ xs) = by_first (decided x) (each_or_not P decided xs)
  where
    by_first : Decided (P x) → Decided (All P xs) → Decided (All P (x ∷ xs))
    by_first (inl first) (inl rest) = inl (All-cons P x xs first rest)
    by_first (inl first) (inr not) = inr (λ all. not (All-tail P x xs all))
    by_first (inr not) rest = inr (λ all. not (All-head P x xs all))

-- ---- the jobs of a task

positive_or_not : (time : ℕ) → Decided (1 ≤ time)
positive_or_not time = by_less (lt_or_not 0 time)
  where
    by_less : Decided (0 < time) → Decided (1 ≤ time)
    by_less (inl less) = inl (omega (arith, less))
    by_less (inr not) = inr (λ some. not (omega (arith, some)))

module _ (jobs : List Job) where
  times_or_not : Decided (AreTimesPositive jobs)
  times_or_not = each_or_not (λ (job : Job). All (λ (time : ℕ). 1 ≤ time) job.times)
      (λ job. each_or_not (λ (time : ℕ). 1 ≤ time) positive_or_not job.times) jobs

  abbrev IsAfterEarlier : (job : ℕ) → Type 0
  IsAfterEarlier l = (k : ℕ) → k < l → (job_at jobs k).arrival < (job_at jobs l).arrival

  arrivals_or_not : Decided (DoArrivalsRise jobs)
  arrivals_or_not = by_all (below_or_not IsAfterEarlier after_or_not (length jobs))
    where
      after_or_not : (l : ℕ) → Decided (IsAfterEarlier l)
      after_or_not l = below_or_not (λ k. (job_at jobs k).arrival < (job_at jobs l).arrival)
          (λ k. lt_or_not (job_at jobs k).arrival (job_at jobs l).arrival) l

      by_all : Decided ((l : ℕ) → l < length jobs → IsAfterEarlier l) → Decided (DoArrivalsRise jobs)
      by_all (inl each) = inl (λ k l lt within. each l within k lt)
      by_all (inr not) = inr (λ rise. not (λ l within k lt. rise k l lt within))

  jobs_or_not : Decided (AreJobsInOrder jobs)
  jobs_or_not = by_parts (both_or_not times_or_not arrivals_or_not)
    where
      by_parts : Decided (AreTimesPositive jobs × DoArrivalsRise jobs) → Decided (AreJobsInOrder jobs)
      by_parts (inl parts) = inl (record { times = parts.0; arrivals = parts.1 })
      by_parts (inr not) = inr (λ ordered. not (ordered.times, ordered.arrivals))

-- ---- the run

pub order_or_not : (system : System) (run : Run) → Decided (IsRunInOrder system run)
order_or_not system run = below_or_not (λ task. AreJobsInOrder (jobs_of run task)) (λ task. jobs_or_not (jobs_of run task)) (length system.tasks)
