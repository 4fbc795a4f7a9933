-- What a run shows of a task can be decided job by job, so there is what it shows.
use Rattle.std.proofs.Common.{◌≡◌, ℕ, suc, ◌-◌, ◌<◌, ◌⊎◌, ℤ, inl, inr, Option, length, refl, sym, ap, ◌∙◌, arith}
use Rattle.std.specs.Prelude.{pos, ◌-ℤ◌, slice_index}
use Rattle.std.proofs.lemmas.Bool.{cases_lt, cases_eq}
use Rattle.cl_runs.specs.{TaskTiming.{System, timing_at}, Table.job_at, Work.work_through, Run.{Run, jobs_of, executed}, Moments.{Finishes, JobFinishes}}
use Rattle.cl_runs.proofs.{FirstBelow.{IsFirst, both_or_not, first_or_none}, StartsFinishes.finishes_once}
use Rattle.cl_chain.proofs.DecidedMoments.{Decided, lt_or_not}
use Rattle.cl_observe.specs.{declared.{values.Spread.Spread, task_shown.ShownTask.ShownTask}, Shown.{job_due, MissesItsDeadline, HasResponseIn, HasJitterIn, HasTimeIn, IsShownTask, IsShownTime}}
use Rattle.cl_observe.proofs.SomeValue.{some_count, AreNumbers, some_greatest, some_spread}

module _ (system : System) (run : Run) (task : ℕ) where
  -- ---- finishes

  module _ (place : ℕ) where
    abbrev IsThere : (job : ℕ) → Type 0
    IsThere job = (job < length (jobs_of run task)) × (place < length (timing_at system task).ranges)

    there_or_not : (job : ℕ) → Decided (IsThere job)
    there_or_not job = both_or_not (lt_or_not job (length (jobs_of run task))) (lt_or_not place (length (timing_at system task).ranges))

    abbrev IsAtFinish : (job moment : ℕ) → Type 0
    IsAtFinish job t = executed system run task t ≡ work_through (jobs_of run task) job place

    some_finish : (job : ℕ) → Decided ((t : ℕ) × Finishes system run task job place t)
    some_finish job = by_there (there_or_not job)
      where
        by_first : IsThere job → ((t : ℕ) × IsFirst (IsAtFinish job) (suc run.table.ticks) t) ⊎ ((t : ℕ) → t < suc run.table.ticks → IsAtFinish job t → ⊥)
            → Decided ((t : ℕ) × Finishes system run task job place t)
        by_first there (inl found) = inl (
          found.0,
          record {
            in_table = there.0;
            is_runnable = there.1;
            by_end = omega (arith, found.1.within);
            reached = found.1.holds;
            least = λ s reached. elim (cases_lt s (suc run.table.ticks)) [
              | inl below ↦ found.1.least s below reached
              | inr past ↦ omega (arith, past, found.1.within)
            ];
          },
        )
        by_first there (inr none) = inr (λ finish. none finish.0 (omega (arith, finish.1.by_end)) finish.1.reached)

        by_there : Decided (IsThere job) → Decided ((t : ℕ) × Finishes system run task job place t)
        by_there (inl there) = by_first there (first_or_none (IsAtFinish job)
            (λ t. cases_eq (executed system run task t) (work_through (jobs_of run task) job place)) (suc run.table.ticks))
        by_there (inr not) = inr (λ finish. not (finish.1.in_table, finish.1.is_runnable))

    -- ---- times

    time_decided : (job : ℕ) → Decided ((time : ℤ) × HasTimeIn system run task place job time)
    time_decided job = by_finish (some_finish job)
      where
        by_finish : Decided ((t : ℕ) × Finishes system run task job place t) → Decided ((time : ℤ) × HasTimeIn system run task place job time)
        by_finish (inl found) = inl (
          pos (slice_index (job_at (jobs_of run task) job).times place),
          record { finish = found.0; finishes = found.1; time_is = refl },
        )
        by_finish (inr none) = inr (λ has. none (has.1.finish, has.1.finishes))

    times_are : AreNumbers (HasTimeIn system run task place) (length (jobs_of run task))
    times_are = record {
      decided = time_decided;
      once = λ job one other first second. first.time_is ∙ sym second.time_is;
      few = λ job number has. has.finishes.in_table;
    }

    pub some_shown_time : (time : Option Spread) × IsShownTime system run task place time
    some_shown_time = some_spread (HasTimeIn system run task place) (length (jobs_of run task)) times_are

  abbrev last : ℕ
  last = length (timing_at system task).ranges - 1

  -- ---- deadlines

  abbrev IsLate : (job : ℕ) → Type 0
  IsLate job = (finish : ℕ) → JobFinishes system run task job finish → job_due system run task job < finish

  late_or_not : (job : ℕ) → Decided (IsLate job)
  late_or_not job = by_finish (some_finish last job)
    where
      by_time : (at : ℕ) → JobFinishes system run task job at → Decided (job_due system run task job < at) → Decided (IsLate job)
      by_time at finishes (inl later) = inl (λ finish is. omega (arith, later, finishes_once system run task job last at finish finishes is))
      by_time at finishes (inr not) = inr (λ late. not (late at finishes))

      by_finish : Decided ((t : ℕ) × JobFinishes system run task job t) → Decided (IsLate job)
      by_finish (inl found) = by_time found.0 found.1 (lt_or_not (job_due system run task job) found.0)
      by_finish (inr none) = inl (λ finish is. absurd (none (finish, is)))

  misses_or_not : (job : ℕ) → Decided (MissesItsDeadline system run task job)
  misses_or_not job = by_parts (both_or_not (lt_or_not (job_due system run task job) (suc run.table.ticks)) (late_or_not job))
    where
      by_parts : Decided ((job_due system run task job < suc run.table.ticks) × IsLate job) → Decided (MissesItsDeadline system run task job)
      by_parts (inl parts) = inl (record { lasts = omega (arith, parts.0); unfinished = parts.1 })
      by_parts (inr not) = inr (λ misses. not (omega (arith, misses.lasts), misses.unfinished))

  -- ---- responses

  abbrev response_at : (job finish : ℕ) → ℤ
  response_at job finish = pos finish -ℤ pos (job_at (jobs_of run task) job).arrival

  response_decided : (job : ℕ) → Decided ((response : ℤ) × HasResponseIn system run task job response)
  response_decided job = by_finish (some_finish last job)
    where
      by_finish : Decided ((t : ℕ) × JobFinishes system run task job t) → Decided ((response : ℤ) × HasResponseIn system run task job response)
      by_finish (inl found) = inl (response_at job found.0, record { finish = found.0; finishes = found.1; response_is = refl })
      by_finish (inr none) = inr (λ has. none (has.1.finish, has.1.finishes))

  responses_are : AreNumbers (HasResponseIn system run task) (length (jobs_of run task))
  responses_are = record {
    decided = response_decided;
    once = λ job one other first second.
        first.response_is
        ∙ ap (response_at job) (finishes_once system run task job last first.finish second.finish first.finishes second.finishes)
        ∙ sym second.response_is;
    few = λ job number has. has.finishes.in_table;
  }

  -- ---- jitters

  jitter_decided : (job : ℕ) → Decided ((jitter : ℤ) × HasJitterIn run task job jitter)
  jitter_decided job = by_place (lt_or_not job (length (jobs_of run task)))
    where
      by_place : Decided (job < length (jobs_of run task)) → Decided ((jitter : ℤ) × HasJitterIn run task job jitter)
      by_place (inl within) = inl (
        pos (job_at (jobs_of run task) job).release -ℤ pos (job_at (jobs_of run task) job).arrival,
        record { in_table = within; jitter_is = refl },
      )
      by_place (inr not) = inr (λ has. not has.1.in_table)

  jitters_are : AreNumbers (HasJitterIn run task) (length (jobs_of run task))
  jitters_are = record {
    decided = jitter_decided;
    once = λ job one other first second. first.jitter_is ∙ sym second.jitter_is;
    few = λ job number has. has.in_table;
  }

  -- ---- together

  pub some_shown_task : (shown : ShownTask) × IsShownTask system run task shown
  some_shown_task =
      let misses = some_count (MissesItsDeadline system run task) misses_or_not (length (jobs_of run task)) in
      let response = some_greatest (HasResponseIn system run task) (length (jobs_of run task)) responses_are in
      let jitter = some_spread (HasJitterIn run task) (length (jobs_of run task)) jitters_are in (
        record { misses = misses.0; response = response.0; jitter = jitter.0 },
        record { misses = misses.1; response = response.1; jitter = jitter.1 },
      )
