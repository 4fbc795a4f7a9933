-- What it means how far a task has come: when it is pending, whether it is held, and what comes next.
use Rattle.std.proofs.Common.{◌≡◌, ℕ, suc, ◌+◌, ◌-◌, ◌^◌, ◌<◌, ◌≤◌, inl, inr, true, List, length, get_or, take, refl, sym, ap, ◌∙◌, subst, arith}
use Rattle.std.specs.Prelude.{sum, sum_by, slice_index}
use Rattle.std.proofs.Math.Numerals.{add-one}
use Rattle.std.proofs.lemmas.Bool.{cases_lt, cases_eq}
use Rattle.std.proofs.lemmas.List.{take_all, get_or_default}
use Rattle.std.proofs.lemmas.List.Sums.{sum_by_more}
use Rattle.cl_runs.specs.{TaskTiming.{Timing, range_at}, declared.job.Job.Job, Table.{no_job, job_at}, Work.{work_before, work_through}, Held.{IsHeldIn, IsHeld}, Legal.released}
use Rattle.cl_runs.proofs.Work.{total_time, work_rises, places_rise, through_place, through_job, before_job, before_past, released_total, released_first, released_before}
use Rattle.cl_sched.specs.{declared.progress.Progress.Progress, Progress.{IsAtRunnable, IsPastJobs, HasComeTo, IsHolding}, Inner.TakingTime.TakeTime}

-- ---- the work before a job

-- nothing is before the first job
pub none_before : (jobs : List Job) → work_before jobs 0 0 ≡ 0
unfolding work_before
none_before jobs = refl

-- all of a job is before the next one
pub next_job : (jobs : List Job) (k p : ℕ) → k < length jobs → suc p ≡ length (job_at jobs k).times → work_through jobs k p ≡ work_before jobs (suc k) 0
unfolding work_before
next_job jobs k p h last =
    let more : sum_by (λ (job : Job). sum job.times) (take (k + 1) jobs) ≡ sum_by (λ (job : Job). sum job.times) (take k jobs) + sum (job_at jobs k).times
    = sum_by_more (λ (job : Job). sum job.times) jobs k no_job h in
    let own : sum (take (p + 1) (job_at jobs k).times) ≡ sum (take p (job_at jobs k).times) + slice_index (job_at jobs k).times p
    = sum_by_more (λ (x : ℕ). x) (job_at jobs k).times p 0 (omega (arith, last)) in
    let whole : take (p + 1) (job_at jobs k).times ≡ (job_at jobs k).times = take_all (p + 1) (job_at jobs k).times (omega (arith, last)) in
    omega (arith, rw add-one at more, own, ap sum whole)

-- ---- the next runnable

-- the times of a job, read with any default
pub times_read : (jobs : List Job) (k : ℕ) (job : Job) → k < length jobs → (get_or jobs k job).times ≡ (job_at jobs k).times
times_read jobs k job h = ap (λ (j : Job). j.times) (get_or_default jobs k job no_job h)

-- after a runnable the task comes to the next one of its job
pub next_place : (jobs : List Job) → TakeTime jobs → (progress : Progress) (done : ℕ) → IsAtRunnable jobs done progress
    → (times : List ℕ) → times ≡ (job_at jobs progress.job).times → progress.place + 1 < length times
    → HasComeTo jobs (work_through jobs progress.job progress.place)
    (record progress { place = progress.place + 1; left = slice_index times (progress.place + 1) })
next_place jobs takes progress done at times same h =
    let next : progress.place + 1 ≡ suc progress.place = omega arith in
    let more : suc progress.place < length (job_at jobs progress.job).times = omega (arith, ap length same) in
    let time : slice_index times (progress.place + 1) ≡ slice_index (job_at jobs progress.job).times (suc progress.place)
    = ap (slice_index times) next ∙ ap (λ (xs : List ℕ). slice_index xs (suc progress.place)) same in
    inl (record {
      in_table = at.in_table;
      is_runnable = omega (arith, more);
      some_left = omega (arith, time, takes.ticks progress.job (suc progress.place) at.in_table more);
      within = omega (arith, time, ap (slice_index (job_at jobs progress.job).times) next);
      reached = omega (
        arith,
        time,
        through_place jobs progress.job progress.place at.is_runnable,
        ap (work_through jobs progress.job) next,
      );
      release = at.release;
    })

-- after the last one it comes to the next job
pub after_last : (jobs : List Job) (progress : Progress) (done : ℕ) → IsAtRunnable jobs done progress
    → (times : List ℕ) → times ≡ (job_at jobs progress.job).times → length times ≤ progress.place + 1
    → work_before jobs (progress.job + 1) 0 ≡ work_through jobs progress.job progress.place
after_last jobs progress done at times same h =
    let next : progress.job + 1 ≡ suc progress.job = omega arith in
    ap (λ k. work_before jobs k 0) next
    ∙ sym (next_job jobs progress.job progress.place at.in_table (omega (arith, h, ap length same, at.is_runnable)))

-- ---- while a job is left

module _ (jobs : List Job) (done : ℕ) (progress : Progress) (at : IsAtRunnable jobs done progress) where
  -- in the runnable to which the task has come, more is executed than before it, and not more than through it
  pub begun : work_before jobs progress.job progress.place ≤ done
  begun = omega (arith, at.reached, at.within)

  pub unfinished : done < work_through jobs progress.job progress.place
  unfinished = omega (arith, at.reached, at.some_left)

  -- after some ticks of it
  pub later : (n : ℕ) → n < progress.left → IsAtRunnable jobs (done + n) (record progress { left = progress.left - n })
  later n h = record {
    in_table = at.in_table;
    is_runnable = at.is_runnable;
    some_left = omega (arith, h);
    within = omega (arith, at.within);
    reached = omega (arith, at.reached, h);
    release = at.release;
  }

  module _ (order : (k l : ℕ) → k ≤ l → l < length jobs → (job_at jobs k).release ≤ (job_at jobs l).release) (t : ℕ) where
    -- it is pending where that job is released
    pub pending : progress.release ≤ t → done < released jobs t
    pending there = omega (
      arith,
      unfinished,
      through_job jobs progress.job progress.place at.in_table at.is_runnable,
      released_first jobs (suc progress.job) t (λ l lt. omega (arith, there, at.release, order l progress.job (omega arith) at.in_table)),
    )

    -- and only there
    pub not_pending : t < progress.release → released jobs t ≤ done
    not_pending early = omega (
      arith,
      begun,
      before_job jobs progress.job progress.place,
      released_before t jobs progress.job (λ l le lt. omega (arith, early, at.release, order progress.job l le lt)),
    )

  module _ (task : Timing) (places : (k : ℕ) → k < length jobs → length (job_at jobs k).times ≡ length task.ranges) where
    -- it is held in that runnable, where the runnable is whole and some of it is done
    pub holding_held : IsHolding task jobs progress → IsHeld task jobs done
    holding_held holding = record {
      job = progress.job;
      place = progress.place;
      inside = record {
        in_table = at.in_table;
        is_runnable = omega (arith, at.is_runnable, places progress.job at.in_table);
        is_whole = holding.is_whole;
        begun = omega (arith, at.reached, holding.begun);
        unfinished = unfinished;
      };
    }

    -- a runnable that is begun and unfinished is the one to which it has come
    same_job : (k p : ℕ) → IsHeldIn task jobs k p done → k ≡ progress.job
    same_job k p inside = elim (cases_eq k progress.job) [
      | inl same ↦ same
      | inr other ↦ elim (cases_lt k progress.job) [
        | inl earlier ↦ absurd (omega (
          arith,
          inside.unfinished,
          begun,
          work_rises jobs k p progress.job progress.place inside.in_table (omega (arith, inside.is_runnable, places k inside.in_table)) earlier,
        ))
        | inr after ↦ absurd (omega (
          arith,
          inside.begun,
          unfinished,
          work_rises jobs progress.job progress.place k p at.in_table at.is_runnable (omega (arith, other, after)),
        ))
      ]
    ]

    same_place : (p : ℕ) → IsHeldIn task jobs progress.job p done → p ≡ progress.place
    same_place p inside = elim (cases_eq p progress.place) [
      | inl same ↦ same
      | inr other ↦ elim (cases_lt p progress.place) [
        | inl earlier ↦ absurd (omega (
          arith,
          inside.unfinished,
          begun,
          through_place jobs progress.job p (omega (arith, inside.is_runnable, places progress.job at.in_table)),
          places_rise jobs progress.job (suc p) progress.place earlier,
        ))
        | inr after ↦ absurd (omega (
          arith,
          inside.begun,
          unfinished,
          through_place jobs progress.job progress.place at.is_runnable,
          places_rise jobs progress.job (suc progress.place) p (omega (arith, other, after)),
        ))
      ]
    ]

    held_at_place : (p : ℕ) → p ≡ progress.place → IsHeldIn task jobs progress.job p done → IsHolding task jobs progress
    held_at_place p same inside = record {
      in_table = at.in_table;
      is_whole = subst (λ q. (range_at task q).whole ≡ true) same inside.is_whole;
      begun = omega (arith, at.reached, subst (λ q. work_before jobs progress.job q < done) same inside.begun);
    }

    held_at_job : (k p : ℕ) → k ≡ progress.job → IsHeldIn task jobs k p done → IsHolding task jobs progress
    held_at_job k p same inside =
        let here : IsHeldIn task jobs progress.job p done = subst (λ l. IsHeldIn task jobs l p done) same inside in
        held_at_place p (same_place p here) here

    pub held_holding : IsHeld task jobs done → IsHolding task jobs progress
    held_holding held = held_at_job held.job held.place (same_job held.job held.place held.inside) held.inside

-- ---- after all jobs

module _ (jobs : List Job) (done : ℕ) (progress : Progress) (past : IsPastJobs jobs done progress) where
  all_done : total_time jobs ≤ done
  all_done = omega (arith, past.reached, before_past jobs progress.job 0 (omega (arith, past.past)))

  pub none_pending : (t : ℕ) → released jobs t ≤ done
  none_pending t = omega (arith, all_done, released_total jobs t)

  pub none_held : (task : Timing) → ((k : ℕ) → k < length jobs → length (job_at jobs k).times ≡ length task.ranges) → IsHeld task jobs done → ⊥
  none_held task places held = omega (
    arith,
    past.past,
    held.inside.unfinished,
    past.reached,
    work_rises jobs held.job held.place progress.job 0 held.inside.in_table
        (omega (arith, held.inside.is_runnable, places held.job held.inside.in_table)) (omega (arith, past.past, held.inside.in_table)),
  )

-- ---- in any case

module _ (jobs : List Job) (done : ℕ) (progress : Progress) where
  pub not_yet_pending : ((k l : ℕ) → k ≤ l → l < length jobs → (job_at jobs k).release ≤ (job_at jobs l).release) → (t : ℕ)
      → HasComeTo jobs done progress → t < progress.release → done < released jobs t → ⊥
  not_yet_pending order t (inl at) early more = omega (arith, more, not_pending jobs done progress at order t early)
  not_yet_pending order t (inr past) early more = omega (arith, more, none_pending jobs done progress past t)

  pub is_held : (task : Timing) → ((k : ℕ) → k < length jobs → length (job_at jobs k).times ≡ length task.ranges)
      → HasComeTo jobs done progress → IsHeld task jobs done → IsHolding task jobs progress
  is_held task places (inl at) held = held_holding jobs done progress at task places held
  is_held task places (inr past) held = absurd (none_held jobs done progress past task places held)

  -- where it is released below the greatest number, a job is left
  pub some_job_released : (t : ℕ) → t < 2 ^ 64 - 1 → progress.release ≤ t → HasComeTo jobs done progress → IsAtRunnable jobs done progress
  some_job_released t h there (inl at) = at
  some_job_released t h there (inr past) = absurd (omega (arith, past.release))

  -- and where it holds
  pub some_job_holds : (task : Timing) → IsHolding task jobs progress → HasComeTo jobs done progress → IsAtRunnable jobs done progress
  some_job_holds task holding (inl at) = at
  some_job_holds task holding (inr past) = absurd (omega (arith, past.past, holding.in_table))
