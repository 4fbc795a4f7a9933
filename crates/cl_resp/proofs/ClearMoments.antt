-- Where the windows of jobs begin, and what has come by their ends.
use Rattle.std.proofs.Common.{ℕ, ◌+◌, ◌-◌, ◌*◌, ◌<◌, ◌≤◌, inl, inr, length, arith}
use Rattle.cl_runs.specs.{TaskTiming.{Timing, System, timing_at, no_timing, IsSound}, Table.job_at, Run.{Run, jobs_of, executed}, Legal.IsLegal, Priorities.is_above, ExecutionTimes.greatest_execution}
use Rattle.cl_runs.proofs.{Climbing.climb_mono, Executed.executed_climbs, LegalFacts.{place_of_task, job_places}, StartsFinishes.finishes_by, Work.through_job}
use Rattle.cl_stim.specs.Releases.{most_releases}
use Rattle.cl_resp.specs.{declared.question.Question.Question, Question.AsksEnough, Response.demand, Clear.{released_before, work_of_first, IsClear, IsBeginning, greatest_through, needed, FinishesBy, IsDoneBy}}
use Rattle.cl_resp.proofs.{BusyWindowTotals.total_of_list, BusyWindowStart.{some_or_none, last_clear, no_later}, BusyWindowWork.before_zero, BusyWindowTicks.above, BusyWindowDemand.demand_counts, BusyWindowRun.{IsLastClearTo, place_finishes, job_done}, BusyWindowJob.released_few}

module _ (system : System) (run : Run) (i : ℕ) where
  -- moment 0 is clear
  pub clear_first : IsClear system run i 0
  clear_first j is_j passes = omega (arith, before_zero (jobs_of run j))

  -- where the window of a job begins is the last clear moment up to its release
  pub last_at_beginning : (k s : ℕ) → IsBeginning system run i k s → IsLastClearTo system run i (job_at (jobs_of run i) k).release s
  last_at_beginning k s begins = record {
    within = begins.by_release;
    clear = begins.clear;
    last = λ t since until. elim (some_or_none (above system i) (λ j. executed system run j t) (λ j. released_before (jobs_of run j) t) (length system.tasks)) [
      | inl less ↦ less
      | inr none ↦ absurd (omega (arith, since, begins.last t until none))
    ];
  }

  -- it begins somewhere, where the jobs before it are done at a clear moment up to its release
  pub beginning_there : (k e : ℕ) → k < length (jobs_of run i) → e ≤ (job_at (jobs_of run i) k).release → IsClear system run i e
      → work_of_first run i k ≤ executed system run i e → (s : ℕ) × IsBeginning system run i k s
  beginning_there k e below early clear done =
      let (s, from) = last_clear (above system i) (executed system run) (λ j. released_before (jobs_of run j)) (length system.tasks)
      (λ j. before_zero (jobs_of run j)) (job_at (jobs_of run i) k).release in
      let last = no_later (above system i) (executed system run) (λ j. released_before (jobs_of run j)) (length system.tasks)
      (job_at (jobs_of run i) k).release s from in (
        s,
        record {
          in_table = below;
          by_release = from.within;
          clear = from.clear;
          last = last;
          done = omega (arith, done, climb_mono (executed system run i) (executed_climbs system run i) e s (last e early clear));
        },
      )

module _ (system : System) (sound : IsSound system) (run : Run) (legal : IsLegal system run) where
  -- a runnable of a job finishes by the end of a window that holds enough for it
  pub runnable_in_window : (i k p s width : ℕ) → p < length (timing_at system i).ranges → IsBeginning system run i k s
      → s + width ≤ run.table.ticks → needed system run i (greatest_through (timing_at system i) p) s width ≤ width
      → FinishesBy system run i k p (s + width)
  runnable_in_window i k p s width place begins h enough = place_finishes system sound run legal i (place_of_task system i p place) k s width
      begins.in_table (last_at_beginning system run i k s begins) h begins.done p place enough

  -- a job is done by the end of one that holds enough for all of it
  pub job_in_window : (i k s width : ℕ) → i < length system.tasks → IsBeginning system run i k s
      → s + width ≤ run.table.ticks → needed system run i (greatest_execution (timing_at system i)) s width ≤ width
      → IsDoneBy system run i k (s + width)
  job_in_window i k s width is begins h enough = job_done system sound run legal i is k s width
      begins.in_table (last_at_beginning system run i k s begins) h begins.done enough

  -- a job that is done by a moment has finished by then
  pub done_finishes : (i k latest : ℕ) → i < length system.tasks → k < length (jobs_of run i) → latest ≤ run.table.ticks
      → IsDoneBy system run i k latest → FinishesBy system run i k (length (timing_at system i).ranges - 1) latest
  done_finishes i k latest is below h done =
      let last : length (timing_at system i).ranges - 1 < length (timing_at system i).ranges = omega (arith, (sound.tasks i is).some_runnable) in
      let (t, by, finishes) = finishes_by system run i k (length (timing_at system i).ranges - 1) done.at below last (omega (arith, done.by, h)) (omega (
        arith,
        through_job (jobs_of run i) k (length (timing_at system i).ranges - 1) below
            (omega (arith, last, job_places system sound run legal i is k below)),
        done.done,
      )) in
      record { finish = t; by = omega (arith, by, done.by); finishes = finishes }

  -- what is needed of a window is no more than the demand of a question that asks enough of the
  -- task
  pub needed_within : (i : ℕ) → i < length system.tasks → (question : Question) → AsksEnough system (timing_at system i) question
      → (s width : ℕ) → needed system run i (greatest_execution (timing_at system i)) s width ≤ demand question width
  unfolding needed
  needed_within i is question asks s width = omega (
    arith,
    asks.block,
    demand_counts system (timing_at system i) question asks width,
    total_of_list (is_above (timing_at system i)) (λ (other : Timing). most_releases other.pattern width * greatest_execution other) system.tasks no_timing,
    released_few system sound run legal i is s width,
  )
