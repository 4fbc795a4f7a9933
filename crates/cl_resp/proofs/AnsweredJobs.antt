-- Where what is asked for a task is answered within a response that its deadline allows, its jobs
-- are done within it, one after the other, and what is answered up to a runnable has finished in
-- time.
use Rattle.std.proofs.Common.{◌≡◌, ℕ, zero, suc, ◌+◌, ◌-◌, ◌<◌, ◌≤◌, pos, ◌+ℤ◌, ◌≤ℤ◌, Bool, Option, Some, None, unwrap_or, length, refl, arith}
use Rattle.std.proofs.lemmas.Int.{ints}
use Rattle.cl_runs.specs.{TaskTiming.{System, timing_at, IsSound}, Table.job_at, Run.{Run, jobs_of}, Legal.IsLegal, Responses.AlwaysFinishesWithin, ExecutionTimes.greatest_execution}
use Rattle.cl_runs.proofs.RunArrivals.{arrives_after_deadline, arrives_below, released_late, released_within}
use Rattle.cl_stim.specs.{declared.phase.Phase.Phase, Phase.{IsArrivalOf, phase_of}}
use Rattle.cl_stim.proofs.RunPhases.{run_arrives}
use Rattle.cl_cycle.specs.Counts.{each_moment}
use Rattle.cl_resp.specs.{Asked.{EndsBy, AnswersWithin}, ByPhase.asked_with, Clear.{IsBeginning, greatest_through, needed, FinishesBy, IsDoneBy}, Promises.AlwaysFinishesThrough}
use Rattle.cl_resp.proofs.{ClearMoments.{clear_first, beginning_there, runnable_in_window, job_in_window, done_finishes}, AnsweredDemand.needs_no_more, AnsweredWindows.{arrivals_phase, each_arrives, ends_in_time}}

-- a window of the run that is wide enough for so much work of a task, and ends by a moment
record HoldsNeeded (system : System) (run : Run) (task own start latest : ℕ) : Type 0 where
  width : ℕ
  by : start + width ≤ latest
  enough : needed system run task own start width ≤ width

module _ (system : System) (sound : IsSound system) (run : Run) (legal : IsLegal system run) (in_phase : ℕ → Bool) (cycle i : ℕ)
    (is : i < length system.tasks) where
  -- a job arrives when jobs of its task can
  arrival_is : (k : ℕ) → k < length (jobs_of run i) → (found : Option Phase) → phase_of (timing_at system i).pattern ≡ found
      → IsArrivalOf (unwrap_or found each_moment) (pos (job_at (jobs_of run i) k).arrival)
  arrival_is k below (Some phase) has = run_arrives system sound run legal i is phase has k below
  arrival_is k below None has = each_arrives (pos (job_at (jobs_of run i) k).arrival)

  -- from where its window begins, one ends in time
  window_holds : (own response : ℕ) → AnswersWithin (asked_with system in_phase cycle i own) response
      → (k s : ℕ) → IsBeginning system run i k s → HoldsNeeded system run i own s ((job_at (jobs_of run i) k).arrival + response)
  window_holds own response answers k s begins = held (ends_in_time (asked_with system in_phase cycle i own)
      (arrivals_phase (timing_at system i).pattern (sound.tasks i is).pattern) response answers
      (pos (job_at (jobs_of run i) k).arrival) (pos s) (arrival_is k begins.in_table (phase_of (timing_at system i).pattern) refl)
      (integral s _ _ _ begins.by_release (released_within system sound run legal i is k begins.in_table)))
    where
      integral : (s release a jitter : ℕ) → s ≤ release → release ≤ a + jitter → pos s ≤ℤ (pos a +ℤ pos jitter)
      integral s release a jitter h k = omega (arith, ints, h, k)

      natural : (s width a response : ℕ) → (pos s +ℤ pos width) ≤ℤ (pos a +ℤ pos response) → s + width ≤ a + response
      natural s width a response h = omega (arith, ints, h)

      held : EndsBy (asked_with system in_phase cycle i own) (pos s) (pos (job_at (jobs_of run i) k).arrival +ℤ pos response)
          → HoldsNeeded system run i own s ((job_at (jobs_of run i) k).arrival + response)
      held ends = record {
        width = ends.width;
        by = natural s ends.width _ response ends.by;
        enough = omega (arith, needs_no_more system sound run legal in_phase i own s ends.width, ends.enough);
      }

  module _ (response : ℕ) (by_deadline : response ≤ (timing_at system i).deadline)
      (answers : AnswersWithin (asked_with system in_phase cycle i (greatest_execution (timing_at system i))) response) where
    -- job k is done in time, where its window begins somewhere
    done_from : (k s : ℕ) → IsBeginning system run i k s → (job_at (jobs_of run i) k).arrival + response ≤ run.table.ticks
        → IsDoneBy system run i k ((job_at (jobs_of run i) k).arrival + response)
    done_from k s begins lasts =
        let holds = window_holds (greatest_execution (timing_at system i)) response answers k s begins in
        let done = job_in_window system sound run legal i k s holds.width is begins (omega (arith, holds.by, lasts)) holds.enough in
        record { at = done.at; after = done.after; by = omega (arith, done.by, holds.by); clear = done.clear; done = done.done }

    -- it does, since the jobs before it are done before its release
    beginning_of : (k : ℕ) → k < length (jobs_of run i) → (s : ℕ) × IsBeginning system run i k s
    beginning_of zero below = beginning_there system run i 0 0 below (omega arith) (clear_first system run i) (omega arith)
    beginning_of (suc k) below =
        let apart : (job_at (jobs_of run i) k).arrival + (timing_at system i).deadline ≤ (job_at (jobs_of run i) (suc k)).arrival
        = arrives_after_deadline system sound run legal i is k (suc k) (omega arith) below in
        let lasts : (job_at (jobs_of run i) k).arrival + response ≤ run.table.ticks
        = omega (arith, apart, by_deadline, arrives_below system sound run legal i is (suc k) below) in
        let (s, begins) = beginning_of k (omega arith) in
        let before = done_from k s begins lasts in
        let early : before.at ≤ (job_at (jobs_of run i) (suc k)).release
        = omega (arith, before.by, apart, by_deadline, released_late system sound run legal i is (suc k) below) in
        beginning_there system run i (suc k) before.at below early before.clear before.done

    -- so it has finished by then
    job_finishes : (k : ℕ) → k < length (jobs_of run i) → (job_at (jobs_of run i) k).arrival + response ≤ run.table.ticks
        → FinishesBy system run i k (length (timing_at system i).ranges - 1) ((job_at (jobs_of run i) k).arrival + response)
    job_finishes k below lasts =
        let (s, begins) = beginning_of k below in
        done_finishes system sound run legal i k _ is below lasts (done_from k s begins lasts)

    -- and so has each runnable up to which the work is answered
    part_finishes : (place through : ℕ) → place < length (timing_at system i).ranges
        → AnswersWithin (asked_with system in_phase cycle i (greatest_through (timing_at system i) place)) through
        → (k : ℕ) → k < length (jobs_of run i) → (job_at (jobs_of run i) k).arrival + through ≤ run.table.ticks
        → FinishesBy system run i k place ((job_at (jobs_of run i) k).arrival + through)
    part_finishes place through known part k below lasts =
        let (s, begins) = beginning_of k below in
        let holds = window_holds (greatest_through (timing_at system i) place) through part k s begins in
        let done = runnable_in_window system sound run legal i k place s holds.width known begins (omega (arith, holds.by, lasts)) holds.enough in
        record { finish = done.finish; by = omega (arith, done.by, holds.by); finishes = done.finishes }

module _ (system : System) (sound : IsSound system) (in_phase : ℕ → Bool) (cycle i response : ℕ) (is : i < length system.tasks)
    (by_deadline : response ≤ (timing_at system i).deadline)
    (answers : AnswersWithin (asked_with system in_phase cycle i (greatest_execution (timing_at system i))) response) where
  -- the jobs always finish within a response within which whole jobs are answered
  pub whole_jobs_finish : AlwaysFinishesWithin system i response
  whole_jobs_finish run legal = record {
    each = λ k below lasts.
        let finishes = job_finishes system sound run legal in_phase cycle i is response by_deadline answers k below lasts in
        (finishes.finish, finishes.finishes, finishes.by);
  }

  -- and have finished a runnable within the time within which the work up to it is
  pub parts_finish : (place through : ℕ) → place < length (timing_at system i).ranges
      → AnswersWithin (asked_with system in_phase cycle i (greatest_through (timing_at system i) place)) through
      → AlwaysFinishesThrough system i place through
  parts_finish place through known part run legal = record {
    each = part_finishes system sound run legal in_phase cycle i is response by_deadline answers place through known part;
  }
