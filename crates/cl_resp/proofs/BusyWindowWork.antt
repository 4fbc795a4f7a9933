-- The work of a task that is released before a moment, and how much of it a window of ticks can add.
use Rattle.std.proofs.Common.{◌≡◌, ℕ, zero, suc, ◌+◌, ◌*◌, ◌<◌, ◌≤◌, Bool, true, false, ◌&&◌, cond, nat_le, nat_lt, List, [], ◌∷◌, length, take, refl, ap, arith, add-mul}
use Rattle.std.specs.Prelude.{sum, sum_by, All}
use Rattle.std.specs.List.{AllZip}
use Rattle.std.proofs.Math.Numerals.{add-one}
use Rattle.std.proofs.lemmas.Bool.Decides.{nat_tests}
use Rattle.std.proofs.lemmas.List.Elements.{All-head, All-tail}
use Rattle.std.proofs.lemmas.List.Sums.{sum_by-cons, sum_by-le-sum_by, sum_by_more}
use Rattle.cl_runs.specs.{TaskTiming.{TimeRange, Timing}, declared.job.Job.Job, Table.{job_at, LiesIn, HasTimes}, Legal.released, Work.{work_through, work_before}, ExecutionTimes.greatest_execution}
use Rattle.cl_runs.proofs.ZippedLists.{zip_take}
use Rattle.cl_stim.specs.Releases.{releases_in}
use Rattle.cl_resp.specs.Clear.{released_before, greatest_through}

before_next : (r t v : ℕ) → cond (nat_le r t) v 0 ≤ cond (nat_lt r (suc t)) v 0
before_next r t v = grind (arith, nat_tests)

next_before : (r t v : ℕ) → cond (nat_lt r (suc t)) v 0 ≤ cond (nat_le r t) v 0
next_before r t v = grind (arith, nat_tests)

-- what is released at or before t is released before the next moment
pub released_is : (jobs : List Job) (t : ℕ) → released jobs t ≡ released_before jobs (suc t)
unfolding released released_before
released_is jobs t = omega (
  arith,
  sum_by-le-sum_by (λ (job : Job). cond (nat_le job.release t) (sum job.times) 0)
      (λ (job : Job). cond (nat_lt job.release (suc t)) (sum job.times) 0) jobs (λ job. before_next job.release t (sum job.times)),
  sum_by-le-sum_by (λ (job : Job). cond (nat_lt job.release (suc t)) (sum job.times) 0)
      (λ (job : Job). cond (nat_le job.release t) (sum job.times) 0) jobs (λ job. next_before job.release t (sum job.times)),
)

before_later : (r t v : ℕ) → cond (nat_lt r t) v 0 ≤ cond (nat_lt r (suc t)) v 0
before_later r t v = grind (arith, nat_tests)

-- what is released before a moment is released before the next
pub before_rises : (jobs : List Job) (t : ℕ) → released_before jobs t ≤ released_before jobs (suc t)
unfolding released_before
before_rises jobs t = sum_by-le-sum_by (λ (job : Job). cond (nat_lt job.release t) (sum job.times) 0)
    (λ (job : Job). cond (nat_lt job.release (suc t)) (sum job.times) 0) jobs (λ job. before_later job.release t (sum job.times))

before_nil : (t : ℕ) → released_before [] t ≡ 0
unfolding released_before
before_nil t = refl

before_cons : (job : Job) (jobs : List Job) (t : ℕ)
    → released_before (job ∷ jobs) t ≡ cond (nat_lt job.release t) (sum job.times) 0 + released_before jobs t
unfolding released_before
before_cons job jobs t = sum_by-cons (λ (j : Job). cond (nat_lt j.release t) (sum j.times) 0) job jobs

releases_cons : (job : Job) (jobs : List Job) (start width : ℕ)
    → releases_in (job ∷ jobs) start width ≡ cond (nat_le start job.release && nat_lt job.release (start + width)) 1 0 + releases_in jobs start width
unfolding releases_in
releases_cons job jobs start width = sum_by-cons (λ (j : Job). cond (nat_le start j.release && nat_lt j.release (start + width)) 1 0) job jobs

none_at_zero : (r v : ℕ) → cond (nat_lt r 0) v 0 ≡ 0
none_at_zero r v = grind (arith, nat_tests)

-- nothing is released before 0
pub before_zero : (jobs : List Job) → released_before jobs 0 ≡ 0
before_zero [] = before_nil 0
before_zero (job ∷ jobs) = omega (arith, before_cons job jobs 0, none_at_zero job.release (sum job.times), before_zero jobs)

within_greatest : (ranges : List TimeRange) (times : List ℕ) → AllZip LiesIn ranges times → sum times ≤ sum_by (λ (range : TimeRange). range.greatest) ranges
within_greatest [] [] zipped = omega arith
within_greatest [] (time ∷ times) zipped = absurd zipped
within_greatest (range ∷ ranges) [] zipped = absurd zipped
within_greatest (range ∷ ranges) (time ∷ times) zipped = omega (
  arith,
  zipped.0.1,
  within_greatest ranges times zipped.1,
  sum_by-cons (λ (x : ℕ). x) time times,
  sum_by-cons (λ (r : TimeRange). r.greatest) range ranges,
)

-- a job takes no more than the greatest execution time of its task
pub job_within : (task : Timing) (job : Job) → HasTimes task job → sum job.times ≤ greatest_execution task
unfolding greatest_execution
job_within task job times = within_greatest task.ranges job.times times

-- and no more up to the end of a runnable than the greatest times up to there
pub place_within : (task : Timing) (jobs : List Job) (k p : ℕ) → HasTimes task (job_at jobs k) → p < length (job_at jobs k).times
    → work_through jobs k p ≤ sum_by (λ (job : Job). sum job.times) (take k jobs) + greatest_through task p
unfolding work_before greatest_through
place_within task jobs k p times h = omega (
  arith,
  rw add-one at (sum_by_more (λ (x : ℕ). x) (job_at jobs k).times p 0 h),
  within_greatest (take (suc p) task.ranges) (take (suc p) (job_at jobs k).times) (zip_take LiesIn (suc p) task.ranges (job_at jobs k).times times),
)

-- a job adds its time to the work of a window only if it is released there
part_added : (r start width v most : ℕ) → v ≤ most
    → cond (nat_lt r (start + width)) v 0 ≤ cond (nat_lt r start) v 0 + cond (nat_le start r && nat_lt r (start + width)) most 0
part_added r start width v most h = grind (arith, nat_tests)

one_or_none : (b : Bool) (most count : ℕ) → cond b most 0 + count * most ≡ (cond b 1 0 + count) * most
one_or_none true most count = omega (arith, add-mul 1 count most)
one_or_none false most count = omega (arith, add-mul 0 count most)

-- the work that a window adds is at most the greatest execution time for each release in it
pub work_added : (task : Timing) (start width : ℕ) (jobs : List Job) → All (HasTimes task) jobs
    → released_before jobs (start + width) ≤ released_before jobs start + releases_in jobs start width * greatest_execution task
work_added task start width [] times = omega (arith, before_nil (start + width))
work_added task start width (job ∷ jobs) times = omega (
  arith,
  before_cons job jobs start,
  before_cons job jobs (start + width),
  part_added job.release start width (sum job.times) (greatest_execution task) (job_within task job (All-head (HasTimes task) job jobs times)),
  one_or_none (nat_le start job.release && nat_lt job.release (start + width)) (greatest_execution task) (releases_in jobs start width),
  ap (λ (count : ℕ). count * greatest_execution task) (releases_cons job jobs start width),
  work_added task start width jobs (All-tail (HasTimes task) job jobs times),
)

part_there : (r t v : ℕ) → r ≤ t → cond (nat_lt r (suc t)) v 0 ≡ v
part_there r t v h = grind (arith, nat_tests)

-- where the first jobs are all released by t, their work is
pub first_released : (jobs : List Job) (n t : ℕ) → ((l : ℕ) → l < n → (job_at jobs l).release ≤ t)
    → sum_by (λ (job : Job). sum job.times) (take n jobs) ≤ released_before jobs (suc t)
first_released [] zero t h = omega arith
first_released [] (suc n) t h = omega arith
first_released (job ∷ jobs) zero t h = omega arith
first_released (job ∷ jobs) (suc n) t h = omega (
  arith,
  before_cons job jobs (suc t),
  part_there job.release t (sum job.times) (h 0 (omega arith)),
  sum_by-cons (λ (j : Job). sum j.times) job (take n jobs),
  first_released jobs n t (λ l below. h (suc l) (omega arith)),
)

part_later : (r t v : ℕ) → t ≤ r → cond (nat_lt r t) v 0 ≡ 0
part_later r t v h = grind (arith, nat_tests)

part_most : (r t v : ℕ) → cond (nat_lt r t) v 0 ≤ v
part_most r t v = grind (arith, nat_tests)

-- where none but the first jobs is released before t, no more than their work is
pub first_alone : (jobs : List Job) (n t : ℕ) → ((l : ℕ) → n ≤ l → l < length jobs → t ≤ (job_at jobs l).release)
    → released_before jobs t ≤ sum_by (λ (job : Job). sum job.times) (take n jobs)
first_alone [] zero t h = omega (arith, before_nil t)
first_alone [] (suc n) t h = omega (arith, before_nil t)
first_alone (job ∷ jobs) zero t h = omega (
  arith,
  before_cons job jobs t,
  part_later job.release t (sum job.times) (h 0 (omega arith) (omega arith)),
  first_alone jobs zero t (λ l after below. h (suc l) (omega arith) (omega arith)),
)
first_alone (job ∷ jobs) (suc n) t h = omega (
  arith,
  before_cons job jobs t,
  part_most job.release t (sum job.times),
  sum_by-cons (λ (j : Job). sum j.times) job (take n jobs),
  first_alone jobs n t (λ l after below. h (suc l) (omega arith) (omega arith)),
)
