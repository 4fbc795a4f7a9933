-- How many jobs of a list have begun, and how many are done, after so many executed ticks.
use Rattle.std.proofs.Common.{◌≡◌, ℕ, suc, ◌+◌, ◌-◌, ◌<◌, ◌≤◌, ◌⊎◌, inl, inr, cond, nat_le, List, [], ◌∷◌, length, take, arith}
use Rattle.std.specs.Prelude.{sum, sum_by}
use Rattle.std.proofs.lemmas.Bool.{cases_lt}
use Rattle.std.proofs.lemmas.Bool.Decides.{nat_tests}
use Rattle.std.proofs.lemmas.List.Sums.{sum_by-cons}
use Rattle.cl_runs.specs.declared.job.Job.{Job}
use Rattle.cl_runs.proofs.Work.{job_time, total_time}

-- the time of the jobs before a job
abbrev pub time_before : List Job → (job : ℕ) → ℕ
time_before jobs k = sum_by (λ (job : Job). sum job.times) (take k jobs)

-- a job has begun and isn't done
pub record IsInside (jobs : List Job) (done : ℕ) : Type 0 where
  pub job : ℕ
  pub in_table : job < length jobs
  pub begun : time_before jobs job < done
  pub unfinished : done < time_before jobs (suc job)

-- how many jobs have begun, of a list whose first begins with the first tick
abbrev pub begun_jobs : List Job → (done : ℕ) → ℕ
begun_jobs [] n = 0
begun_jobs (job ∷ jobs) n = cond (nat_le 1 n) (suc (begun_jobs jobs (n - job_time job))) 0

-- how many are done
abbrev pub done_jobs : List Job → (done : ℕ) → ℕ
done_jobs [] n = 0
done_jobs (job ∷ jobs) n = cond (nat_le (job_time job) n) (suc (done_jobs jobs (n - job_time job))) 0

pick : (a b x y : ℕ) → a ≤ b → cond (nat_le a b) x y ≡ x
pick a b x y h = grind (arith, nat_tests)

skip : (a b x y : ℕ) → b < a → cond (nat_le a b) x y ≡ y
skip a b x y h = grind (arith, nat_tests)

-- ---- both never fall, and are at most the number of jobs

pub begun_most : (jobs : List Job) (n : ℕ) → begun_jobs jobs n ≤ length jobs
begun_most [] n = omega arith
begun_most (job ∷ jobs) n = elim (cases_lt 0 n) [
  | inl some ↦ omega (arith, pick 1 n (suc (begun_jobs jobs (n - job_time job))) 0 some, begun_most jobs (n - job_time job))
  | inr none ↦ omega (arith, skip 1 n (suc (begun_jobs jobs (n - job_time job))) 0 (omega arith))
]

pub done_most : (jobs : List Job) (n : ℕ) → done_jobs jobs n ≤ length jobs
done_most [] n = omega arith
done_most (job ∷ jobs) n = elim (cases_lt n (job_time job)) [
  | inl within ↦ omega (arith, skip (job_time job) n (suc (done_jobs jobs (n - job_time job))) 0 within)
  | inr past ↦ omega (arith, pick (job_time job) n (suc (done_jobs jobs (n - job_time job))) 0 past, done_most jobs (n - job_time job))
]

pub begun_mono : (jobs : List Job) (m n : ℕ) → m ≤ n → begun_jobs jobs m ≤ begun_jobs jobs n
begun_mono [] m n h = omega arith
begun_mono (job ∷ jobs) m n h = elim (cases_lt 0 m) [
  | inl some ↦ omega (
    arith,
    pick 1 m (suc (begun_jobs jobs (m - job_time job))) 0 some,
    pick 1 n (suc (begun_jobs jobs (n - job_time job))) 0 (omega arith),
    begun_mono jobs (m - job_time job) (n - job_time job) (omega arith),
  )
  | inr none ↦ omega (arith, skip 1 m (suc (begun_jobs jobs (m - job_time job))) 0 (omega arith))
]

pub done_mono : (jobs : List Job) (m n : ℕ) → m ≤ n → done_jobs jobs m ≤ done_jobs jobs n
done_mono [] m n h = omega arith
done_mono (job ∷ jobs) m n h = elim (cases_lt m (job_time job)) [
  | inl within ↦ omega (arith, skip (job_time job) m (suc (done_jobs jobs (m - job_time job))) 0 within)
  | inr past ↦ omega (
    arith,
    pick (job_time job) m (suc (done_jobs jobs (m - job_time job))) 0 past,
    pick (job_time job) n (suc (done_jobs jobs (n - job_time job))) 0 (omega arith),
    done_mono jobs (m - job_time job) (n - job_time job) (omega arith),
  )
]

-- ---- where a job is inside

time_next : (job : Job) (jobs : List Job) (k : ℕ) → time_before (job ∷ jobs) (suc k) ≡ job_time job + time_before jobs k
time_next job jobs k = sum_by-cons (λ (j : Job). sum j.times) job (take k jobs)

first_inside : (job : Job) (jobs : List Job) (n : ℕ) → 0 < n → n < job_time job → IsInside (job ∷ jobs) n
first_inside job jobs n some within = record {
  job = 0;
  in_table = omega arith;
  begun = omega arith;
  unfinished = omega (arith, time_next job jobs 0);
}

later_inside : (job : Job) (jobs : List Job) (n m : ℕ) → m + job_time job ≡ n → IsInside jobs m → IsInside (job ∷ jobs) n
later_inside job jobs n m same inside = record {
  job = suc inside.job;
  in_table = omega (arith, inside.in_table);
  begun = omega (arith, inside.begun, time_next job jobs inside.job);
  unfinished = omega (arith, inside.unfinished, time_next job jobs (suc inside.job));
}

-- where work is left, a job is inside, or the next tick begins one
pub inside_or_begins : (jobs : List Job) (n : ℕ) → n < total_time jobs → IsInside jobs n ⊎ (begun_jobs jobs n < begun_jobs jobs (suc n))
inside_or_begins [] n left = absurd (omega (arith, left))
inside_or_begins (job ∷ jobs) n left = elim (cases_lt 0 n) [
  | inl some ↦ elim (cases_lt n (job_time job)) [
    | inl within ↦ inl (first_inside job jobs n some within)
    | inr past ↦ elim (inside_or_begins jobs (n - job_time job) (omega (arith, left, sum_by-cons (λ (j : Job). sum j.times) job jobs))) [
      | inl inside ↦ inl (later_inside job jobs n (n - job_time job) (omega arith) inside)
      | inr begins ↦ inr (omega (
        arith,
        begins,
        pick 1 n (suc (begun_jobs jobs (n - job_time job))) 0 some,
        pick 1 (suc n) (suc (begun_jobs jobs (suc n - job_time job))) 0 (omega arith),
        begun_mono jobs (suc (n - job_time job)) (suc n - job_time job) (omega arith),
      ))
    ]
  ]
  | inr none ↦ inr (omega (
    arith,
    skip 1 n (suc (begun_jobs jobs (n - job_time job))) 0 (omega arith),
    pick 1 (suc n) (suc (begun_jobs jobs (suc n - job_time job))) 0 (omega arith),
  ))
]

-- where work is left, after the next tick a job is inside, or that tick finishes one
pub inside_or_finishes : (jobs : List Job) (n : ℕ) → n < total_time jobs → IsInside jobs (suc n) ⊎ (done_jobs jobs n < done_jobs jobs (suc n))
inside_or_finishes [] n left = absurd (omega (arith, left))
inside_or_finishes (job ∷ jobs) n left = elim (cases_lt (suc n) (job_time job)) [
  | inl within ↦ inl (first_inside job jobs (suc n) (omega arith) within)
  | inr reached ↦ elim (cases_lt n (job_time job)) [
    | inl before ↦ inr (omega (
      arith,
      skip (job_time job) n (suc (done_jobs jobs (n - job_time job))) 0 before,
      pick (job_time job) (suc n) (suc (done_jobs jobs (suc n - job_time job))) 0 reached,
    ))
    | inr past ↦ elim (inside_or_finishes jobs (n - job_time job) (omega (arith, left, sum_by-cons (λ (j : Job). sum j.times) job jobs))) [
      | inl inside ↦ inl (later_inside job jobs (suc n) (suc (n - job_time job)) (omega arith) inside)
      | inr finishes ↦ inr (omega (
        arith,
        finishes,
        pick (job_time job) n (suc (done_jobs jobs (n - job_time job))) 0 past,
        pick (job_time job) (suc n) (suc (done_jobs jobs (suc n - job_time job))) 0 (omega arith),
        done_mono jobs (suc (n - job_time job)) (suc n - job_time job) (omega arith),
      ))
    ]
  ]
]
