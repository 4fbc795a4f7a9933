-- Where a runnable of a job starts, nothing above is pending: from each moment on all work above
-- that is surely released up to the start went before it, and what its own job executed.
use Rattle.std.proofs.Common.{◌≡◌, ℕ, ◌+◌, ◌<◌, ◌≤◌, inl, inr, Bool, true, cond, nat_le, length, subst, arith}
use Rattle.std.proofs.lemmas.Bool.{cases_lt, cases_Bool, cond-true, cond-false, leb-true}
use Rattle.cl_runs.specs.{TaskTiming.{System, timing_at, IsSound}, Table.job_at, Run.{Run, jobs_of, executed}, Legal.{released, IsHighestPending, IsLegal}, Moments.Starts}
use Rattle.cl_runs.proofs.{Climbing.climb_mono, Executed.executed_climbs, Holding.start_pending, JobProgress.{executed_by_release, starts_late}, LegalFacts.job_times, RunArrivals.released_late}
use Rattle.cl_comm.specs.{Windows.spot_at, Inner.LeastTimes.least_before}
use Rattle.cl_lead.specs.Leads.{surely_taken, work_above}
use Rattle.cl_lead.proofs.{LeadTotals.{total_more, total_of_range}, LeadTicks.{above, above_core, above_priority, executed_slow}, LeadWork.{IsEarly, sure_executed}}

module _ (system : System) (sound : IsSound system) (run : Run) (legal : IsLegal system run) (i : ℕ) (is : i < length system.tasks)
    (k p t : ℕ) (starts : Starts system run i k p t) where
  -- the tasks above have executed all that they have released
  done_above : (j : ℕ) → j < length system.tasks → above system i j ≡ true → released (jobs_of run j) t ≤ executed system run j t
  done_above j is_j passes =
      let first : IsHighestPending system run.table (λ m. executed system run m t) t (timing_at system i).core i
      = start_pending system sound run legal i k p t starts in
      elim (cases_lt (executed system run j t) (released (jobs_of run j) t)) [
        | inl less ↦ absurd (omega (
          arith,
          above_priority system i j passes,
          first.highest j is_j (above_core system i j passes) less,
        ))
        | inr none ↦ none
      ]

  -- it starts the least times before it after the arrival or later
  pub start_late : (job_at (jobs_of run i) k).arrival + (spot_at (timing_at system i) p).before ≤ t
  start_late = omega (
    arith,
    released_late system sound run legal i is k starts.in_table,
    starts_late system sound run legal i is k p t starts,
    least_before (timing_at system i) (jobs_of run i) k (job_times system sound run legal i is k starts.in_table) p,
  )

  -- the job has executed the least times before the runnable from each moment up to its arrival on
  own_before : (from : ℕ) → from ≤ (job_at (jobs_of run i) k).arrival
      → executed system run i from + (spot_at (timing_at system i) p).before ≤ executed system run i t
  own_before from h = omega (
    arith,
    starts.reached,
    least_before (timing_at system i) (jobs_of run i) k (job_times system sound run legal i is k starts.in_table) p,
    executed_by_release system sound run legal i is k starts.in_table from
        (omega (arith, h, released_late system sound run legal i is k starts.in_table)),
  )

  module _ (in_phase : ℕ → Bool) (early : (j : ℕ) → IsEarly (in_phase j) (timing_at system j).pattern) (from width : ℕ) (ends : from + width ≡ t) where
    executed_further : executed system run i from ≤ executed system run i t
    executed_further = climb_mono (executed system run i) (executed_climbs system run i) from t (omega (arith, ends))

    sure_of : (j : ℕ) → j < length system.tasks → above system i j ≡ true
        → executed system run j from + surely_taken system in_phase from width j ≤ executed system run j t
    sure_of j is_j passes =
        subst (λ u. released (jobs_of run j) u ≤ executed system run j u
        → executed system run j from + surely_taken system in_phase from width j ≤ executed system run j u) ends
        (sure_executed system sound run legal j is_j (in_phase j) (early j) from width (omega (arith, ends, starts.below_end)))
        (done_above j is_j passes)

    -- so what those above took, and the task itself, fits the ticks between
    work_fits : work_above system in_phase i from width + executed system run i t ≤ executed system run i from + width
    unfolding work_above
    work_fits = omega (
      arith,
      ends,
      total_of_range (above system i) (surely_taken system in_phase from width) (length system.tasks),
      total_more (above system i) (λ j. executed system run j from) (λ j. executed system run j t) (surely_taken system in_phase from width)
          (length system.tasks) sure_of,
      executed_slow system run i from t (omega (arith, ends)),
    )

    -- and so does what is ahead of the runnable
    pub ahead_fits : work_above system in_phase i from width
        + cond (nat_le from (job_at (jobs_of run i) k).arrival) (spot_at (timing_at system i) p).before 0 ≤ width
    ahead_fits = elim (cases_Bool (nat_le from (job_at (jobs_of run i) k).arrival)) [
      | inl up_to ↦ omega (
        arith,
        work_fits,
        cond-true (nat_le from (job_at (jobs_of run i) k).arrival) (spot_at (timing_at system i) p).before 0 up_to,
        own_before from (leb-true from (job_at (jobs_of run i) k).arrival up_to),
      )
      | inr later ↦ omega (
        arith,
        work_fits,
        cond-false (nat_le from (job_at (jobs_of run i) k).arrival) (spot_at (timing_at system i) p).before 0 later,
        executed_further,
      )
    ]
