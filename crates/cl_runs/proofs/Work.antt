-- Sums of execution times: what is released by a moment, and the work before a runnable of a job.
use Rattle.std.proofs.Common.{◌≡◌, ℕ, zero, suc, ◌+◌, ◌<◌, ◌≤◌, cond, nat_le, List, [], ◌∷◌, length, get_or, take, ap, ◌∙◌, arith}
use Rattle.std.specs.Prelude.{sum, sum_by, slice_index}
use Rattle.std.proofs.Math.Numerals.{add-one}
use Rattle.std.proofs.lemmas.Bool.Decides.{nat_tests}
use Rattle.std.proofs.lemmas.Bool.{cond-true, cond-false, le-leb, lt-leb}
use Rattle.std.proofs.lemmas.List.{take-take, take_all, get_or-take, length-take}
use Rattle.std.proofs.lemmas.List.Sums.{sum_by-cons, sum_by-le-sum_by, sum_by-take-le, sum_by_more, sum_by_more_le}
use Rattle.cl_runs.specs.{declared.job.Job.Job, Table.{job_at, no_job}, Legal.released, Work.{work_before, work_through}}

-- the time of a whole job, and of all jobs
abbrev pub job_time : Job → ℕ
job_time job = sum job.times

abbrev pub total_time : List Job → ℕ
total_time jobs = sum_by (λ (job : Job). sum job.times) jobs

later_part : (r s t v : ℕ) → s ≤ t → cond (nat_le r s) v 0 ≤ cond (nat_le r t) v 0
later_part r s t v h = grind (arith, nat_tests)

part_le : (r t v : ℕ) → cond (nat_le r t) v 0 ≤ v
part_le r t v = grind (arith, nat_tests)

-- what is released never falls
pub released_mono : (jobs : List Job) (s t : ℕ) → s ≤ t → released jobs s ≤ released jobs t
unfolding released
released_mono jobs s t h = sum_by-le-sum_by (λ (job : Job). cond (nat_le job.release s) (sum job.times) 0)
    (λ (job : Job). cond (nat_le job.release t) (sum job.times) 0) jobs (λ job. later_part job.release s t (sum job.times) h)

-- no more is released than the time of all jobs
pub released_total : (jobs : List Job) (t : ℕ) → released jobs t ≤ total_time jobs
unfolding released
released_total jobs t = sum_by-le-sum_by (λ (job : Job). cond (nat_le job.release t) (sum job.times) 0)
    (λ (job : Job). sum job.times) jobs (λ job. part_le job.release t (sum job.times))

-- a sum over more of a list is no less
pub sum_take_mono : {X : Type 0} (f : X → ℕ) (xs : List X) (m n : ℕ) → m ≤ n → sum_by f (take m xs) ≤ sum_by f (take n xs)
sum_take_mono f xs m n h = rw (take-take m n xs h) at (sum_by-take-le f (take n xs) m)

-- the time of a runnable stands behind that of the runnables before it
pub through_job : (jobs : List Job) (k p : ℕ) → k < length jobs → p < length (job_at jobs k).times
    → work_through jobs k p ≤ sum_by (λ (job : Job). sum job.times) (take (suc k) jobs)
unfolding work_before
through_job jobs k p hk hp =
    let whole : sum_by (λ (job : Job). sum job.times) (take (k + 1) jobs) ≡ sum_by (λ (job : Job). sum job.times) (take k jobs) + sum (job_at jobs k).times
    = sum_by_more (λ (job : Job). sum job.times) jobs k no_job hk in
    let part : sum (take p (job_at jobs k).times) + slice_index (job_at jobs k).times p ≤ sum (job_at jobs k).times
    = sum_by_more_le (λ x. x) (job_at jobs k).times p 0 hp in
    omega (arith, part, rw add-one at whole)

pub before_job : (jobs : List Job) (k p : ℕ) → sum_by (λ (job : Job). sum job.times) (take k jobs) ≤ work_before jobs k p
unfolding work_before
before_job jobs k p = omega arith

-- all of a job stands before each later job
pub work_rises : (jobs : List Job) (k p l q : ℕ) → k < length jobs → p < length (job_at jobs k).times → k < l
    → work_through jobs k p ≤ work_before jobs l q
work_rises jobs k p l q hk hp h = omega (
  arith,
  through_job jobs k p hk hp,
  sum_take_mono (λ (job : Job). sum job.times) jobs (suc k) l h,
  before_job jobs l q,
)

-- within a job the runnables stand in order
pub places_rise : (jobs : List Job) (k p q : ℕ) → p ≤ q → work_before jobs k p ≤ work_before jobs k q
unfolding work_before
places_rise jobs k p q h = omega (arith, sum_take_mono (λ (x : ℕ). x) (job_at jobs k).times p q h)

-- each begins where the one before it ends
pub through_place : (jobs : List Job) (k p : ℕ) → p < length (job_at jobs k).times → work_through jobs k p ≡ work_before jobs k (suc p)
unfolding work_before
through_place jobs k p h = let more = sum_by_more (λ (x : ℕ). x) (job_at jobs k).times p 0 h in omega (arith, rw add-one at more)

-- past the last job, all of them stand before
pub before_past : (jobs : List Job) (k p : ℕ) → length jobs ≤ k → total_time jobs ≤ work_before jobs k p
before_past jobs k p h = omega (arith, before_job jobs k p, ap (sum_by (λ (job : Job). sum job.times)) (take_all k jobs h))

-- where a list has the first n jobs of another, a job below n and the work before it are the same
pub job_along : (n : ℕ) (jobs longer : List Job) → jobs ≡ take n longer → (k : ℕ) → k < n → job_at jobs k ≡ job_at longer k
job_along n jobs longer same k h = ap (λ (xs : List Job). get_or xs k no_job) same ∙ get_or-take n longer k no_job h

pub work_along : (n : ℕ) (jobs longer : List Job) → jobs ≡ take n longer → (k p : ℕ) → k < n → work_before jobs k p ≡ work_before longer k p
unfolding work_before
work_along n jobs longer same k p h =
    let firsts : take k jobs ≡ take k longer = ap (take k) same ∙ take-take k n longer (omega arith) in
    omega (arith, ap (sum_by (λ (job : Job). sum job.times)) firsts, ap (λ (job : Job). sum (take p job.times)) (job_along n jobs longer same k h))

pub through_along : (n : ℕ) (jobs longer : List Job) → jobs ≡ take n longer → (k p : ℕ) → k < n → work_through jobs k p ≡ work_through longer k p
through_along n jobs longer same k p h =
    omega (arith, work_along n jobs longer same k p h, ap (λ (job : Job). slice_index job.times p) (job_along n jobs longer same k h))

-- and the jobs of a list stand before each further one of a list that goes on from it
pub before_further : (jobs longer : List Job) → jobs ≡ take (length jobs) longer → (k p : ℕ) → length jobs ≤ k
    → total_time jobs ≤ work_before longer k p
before_further jobs longer same k p h =
    omega (
      arith,
      ap (sum_by (λ (job : Job). sum job.times)) same,
      sum_take_mono (λ (job : Job). sum job.times) longer (length jobs) k h,
      before_job longer k p,
    )

-- the first jobs of a list are at most as many
pub first_length : (n : ℕ) (jobs longer : List Job) → jobs ≡ take n longer → length jobs ≤ length longer
first_length n jobs longer same = omega (arith, ap length same, length-take n longer)

-- ---- what is released

-- where no job from number k on is released by t, no more is released by t than the work before job k
pub released_before : (t : ℕ) (jobs : List Job) (k : ℕ) → ((l : ℕ) → k ≤ l → l < length jobs → t < (job_at jobs l).release)
    → released jobs t ≤ sum_by (λ (job : Job). sum job.times) (take k jobs)
unfolding released
released_before t [] k later = omega arith
released_before t (job ∷ jobs) zero later = omega (
  arith,
  sum_by-cons (λ (j : Job). cond (nat_le j.release t) (sum j.times) 0) job jobs,
  cond-false (nat_le job.release t) (sum job.times) 0 (lt-leb job.release t (later 0 (omega arith) (omega arith))),
  released_before t jobs zero (λ l h below. later (suc l) (omega arith) (omega arith)),
)
released_before t (job ∷ jobs) (suc k) later = omega (
  arith,
  sum_by-cons (λ (j : Job). cond (nat_le j.release t) (sum j.times) 0) job jobs,
  sum_by-cons (λ (j : Job). sum j.times) job (take k jobs),
  part_le job.release t (sum job.times),
  released_before t jobs k (λ l h below. later (suc l) (omega arith) (omega arith)),
)

part_there : (r t v : ℕ) → r ≤ t → cond (nat_le r t) v 0 ≡ v
part_there r t v h = cond-true (nat_le r t) v 0 (le-leb r t h)

-- where the first n jobs are released by t, their time is
pub released_first : (jobs : List Job) (n t : ℕ) → ((l : ℕ) → l < n → (job_at jobs l).release ≤ t)
    → sum_by (λ (job : Job). sum job.times) (take n jobs) ≤ released jobs t
unfolding released
released_first [] n t there = omega (arith, ap (sum_by (λ (job : Job). sum job.times)) (take_all n [] (omega arith)))
released_first (job ∷ jobs) zero t there = omega arith
released_first (job ∷ jobs) (suc n) t there = omega (
  arith,
  sum_by-cons (λ (j : Job). cond (nat_le j.release t) (sum j.times) 0) job jobs,
  sum_by-cons (λ (j : Job). sum j.times) job (take n jobs),
  part_there job.release t (sum job.times) (there 0 (omega arith)),
  released_first jobs n t (λ l h. there (suc l) (omega arith)),
)
