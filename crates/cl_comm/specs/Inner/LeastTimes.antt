-- The least times of a job's runnables: what it executes before, in and after a runnable is no less than them.
use Rattle.std.proofs.Common.{◌≡◌, ℕ, suc, ◌+◌, ◌-◌, ◌<◌, ◌≤◌, List, [], ◌∷◌, length, get_or, take, drop, refl, ap, arith}
use Rattle.std.specs.Prelude.{sum}
use Rattle.std.specs.List.{AllZip}
use Rattle.std.proofs.Math.Numerals.{add-one}
use Rattle.std.proofs.lemmas.List.{take_all}
use Rattle.std.proofs.lemmas.List.Sums.{sum_by-cons, sum_by-take-drop, sum_by-drop_more, sum_by_more}
use Rattle.cl_runs.specs.{TaskTiming.{TimeRange, Timing, no_range}, declared.job.Job.Job, Table.{job_at, LiesIn, HasTimes}, Work.{work_before, work_through}}
use Rattle.cl_runs.proofs.ZippedLists.{zip_at, zip_take, zip_drop}
use Rattle.cl_comm.specs.Windows.{least_times, spot_at}

-- times in their ranges sum up to no less than the least times
least_sum : (ranges : List TimeRange) (times : List ℕ) → AllZip LiesIn ranges times → least_times ranges ≤ sum times
unfolding least_times
least_sum [] [] zipped = omega arith
least_sum [] (time ∷ times) zipped = absurd zipped
least_sum (range ∷ ranges) [] zipped = absurd zipped
least_sum (range ∷ ranges) (time ∷ times) zipped = omega (
  arith,
  sum_by-cons (λ (r : TimeRange). r.least) range ranges,
  sum_by-cons (λ (x : ℕ). x) time times,
  zipped.0.0,
  least_sum ranges times zipped.1,
)

-- the work through the last runnable of a job is that before the job and all its times
through_last : (jobs : List Job) (k n : ℕ) → length (job_at jobs k).times ≡ n → 0 < n
    → work_through jobs k (n - 1) ≡ work_before jobs k 0 + sum (job_at jobs k).times
unfolding work_before
through_last jobs k n count some =
    let times : List ℕ = (job_at jobs k).times in
    let more : sum (take (n - 1 + 1) times) ≡ sum (take (n - 1) times) + get_or times (n - 1) 0 = sum_by_more (λ (x : ℕ). x) times (n - 1) 0 (omega (arith, count)) in
    let all : take (n - 1 + 1) times ≡ times = take_all (n - 1 + 1) times (omega (arith, count)) in
    omega (arith, more, ap sum all)

-- and that is the work through each runnable and the times after it
after_through : (jobs : List Job) (k p : ℕ) → p < length (job_at jobs k).times
    → work_through jobs k p + sum (drop (suc p) (job_at jobs k).times) ≡ work_before jobs k 0 + sum (job_at jobs k).times
unfolding work_before
after_through jobs k p h = omega (
  arith,
  sum_by-take-drop (λ (x : ℕ). x) (job_at jobs k).times p,
  rw add-one at (sum_by-drop_more (λ (x : ℕ). x) (job_at jobs k).times p 0 h),
)

-- a spot has its task's deadline
pub deadline_is : (task : Timing) (p : ℕ) → (spot_at task p).deadline ≡ task.deadline
unfolding spot_at
deadline_is task p = refl

module _ (task : Timing) (jobs : List Job) (k : ℕ) (times : HasTimes task (job_at jobs k)) where
  -- a job executes the least times before a runnable before that runnable
  pub least_before : (p : ℕ) → work_before jobs k 0 + (spot_at task p).before ≤ work_before jobs k p
  unfolding work_before spot_at
  least_before p = omega (arith, least_sum (take p task.ranges) (take p (job_at jobs k).times) (zip_take LiesIn p task.ranges (job_at jobs k).times times))

  -- its own least time in it
  pub least_own : (p : ℕ) → p < length task.ranges → work_before jobs k p + (spot_at task p).own ≤ work_through jobs k p
  unfolding spot_at
  least_own p h = omega (arith, (zip_at LiesIn task.ranges (job_at jobs k).times times no_range 0 p h).0)

  -- and those after it after it
  pub least_after : (p : ℕ) → p < length task.ranges → length (job_at jobs k).times ≡ length task.ranges
      → work_through jobs k p + (spot_at task p).after ≤ work_through jobs k (length task.ranges - 1)
  unfolding spot_at
  least_after p h count = omega (
    arith,
    through_last jobs k (length task.ranges) count (omega (arith, h)),
    after_through jobs k p (omega (arith, h, count)),
    least_sum (drop (suc p) task.ranges) (drop (suc p) (job_at jobs k).times) (zip_drop LiesIn (suc p) task.ranges (job_at jobs k).times times),
  )
