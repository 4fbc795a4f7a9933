-- Every job of a task that has a response finishes within it, one after the other.
use Rattle.std.proofs.Common.{◌≡◌, ℕ, zero, suc, ◌+◌, ◌-◌, ◌<◌, ◌≤◌, Some, length, arith}
use Rattle.cl_model.specs.Timing.{greatest_jitter}
use Rattle.cl_runs.specs.{TaskTiming.{System, timing_at, IsSound}, Table.job_at, Run.{Run, jobs_of, executed}, Legal.IsLegal, Moments.JobFinishes, Responses.{AlwaysFinishesWithin, IsTimely}}
use Rattle.cl_runs.proofs.{Climbing.climb_mono, Executed.executed_climbs, LegalFacts.job_places, RunArrivals.{arrives_after_deadline, released_late, released_within}, StartsFinishes.finishes_by, Work.through_job}
use Rattle.cl_resp.specs.{declared.question.Question.Question, Promises.AnswersFor, Clear.{released_before, work_of_first, IsDoneBy}, Response.{busy_window, IsSettled, IsTightlySettled}}
use Rattle.cl_resp.proofs.{BusyWindowTicks.above, BusyWindowStart.{last_clear, no_later}, BusyWindowWork.before_zero, BusyWindowDemand.{HoldsDemand, window_holds}, BusyWindowRun.IsLastClearTo, BusyWindowJob.done_in_window, SettledTasks.{IsAnswered, answered_window, answered_response}}
use Rattle.cl_resp.proofs.{SettledTasks.{settled_answer, response_in_deadline, tight_answer, tight_in_deadline}, Windows.window_is_least}

-- from the last clear moment up to the release of job k on, by the end of a window there is a clear one at which jobs 0
-- to k are done
record IsDoneInWindow (system : System) (run : Run) (i k width : ℕ) : Type 0 where
  start : ℕ
  from : IsLastClearTo system run i (job_at (jobs_of run i) k).release start
  done : IsDoneBy system run i k (start + width)

module _ (system : System) (sound : IsSound system) (run : Run) (legal : IsLegal system run) (i : ℕ) (is : i < length system.tasks)
    (block width : ℕ) (holds : HoldsDemand system i block width) where
  -- job k, where no earlier work of the task is left at the last clear moment up to its release
  one_done : (k s : ℕ) → k < length (jobs_of run i)
      → (job_at (jobs_of run i) k).arrival + (greatest_jitter (timing_at system i).pattern + width) ≤ run.table.ticks
      → IsLastClearTo system run i (job_at (jobs_of run i) k).release s → work_of_first run i k ≤ executed system run i s
      → IsDoneInWindow system run i k width
  one_done k s below lasts from earlier = record {
    start = s;
    from = from;
    done = done_in_window system sound run legal i is k s block width below holds from
        (omega (arith, lasts, from.within, released_within system sound run legal i is k below)) earlier;
  }

  -- job k, since the jobs before it are done at a clear moment before its release
  each_done : (k : ℕ) → k < length (jobs_of run i)
      → (job_at (jobs_of run i) k).arrival + (greatest_jitter (timing_at system i).pattern + width) ≤ run.table.ticks
      → IsDoneInWindow system run i k width
  each_done zero below lasts =
      let (s, from) = last_clear (above system i) (executed system run) (λ j. released_before (jobs_of run j)) (length system.tasks)
      (λ j. before_zero (jobs_of run j)) (job_at (jobs_of run i) 0).release in
      one_done 0 s below lasts from (omega arith)
  each_done (suc k) below lasts =
      let (s, from) = last_clear (above system i) (executed system run) (λ j. released_before (jobs_of run j)) (length system.tasks)
      (λ j. before_zero (jobs_of run j)) (job_at (jobs_of run i) (suc k)).release in
      let apart : (job_at (jobs_of run i) k).arrival + (timing_at system i).deadline ≤ (job_at (jobs_of run i) (suc k)).arrival
      = arrives_after_deadline system sound run legal i is k (suc k) (omega arith) below in
      let before = each_done k (omega arith) (omega (arith, apart, holds.within, lasts)) in
      let released : before.done.at ≤ (job_at (jobs_of run i) (suc k)).release = omega (
        arith,
        before.done.by,
        before.from.within,
        released_within system sound run legal i is k (omega arith),
        holds.within,
        apart,
        released_late system sound run legal i is (suc k) below,
      ) in
      let clear : before.done.at ≤ s = no_later (above system i) (executed system run) (λ j. released_before (jobs_of run j)) (length system.tasks)
      (job_at (jobs_of run i) (suc k)).release s from before.done.at released before.done.clear in
      one_done (suc k) s below lasts from
      (omega (arith, before.done.done, climb_mono (executed system run i) (executed_climbs system run i) before.done.at s clear))

  -- so it is done within the response of its arrival
  done_by_response : (k : ℕ) → k < length (jobs_of run i)
      → (job_at (jobs_of run i) k).arrival + (greatest_jitter (timing_at system i).pattern + width) ≤ run.table.ticks
      → work_of_first run i (suc k)
      ≤ executed system run i ((job_at (jobs_of run i) k).arrival + (greatest_jitter (timing_at system i).pattern + width))
  done_by_response k below lasts =
      let each = each_done k below lasts in
      let by : each.done.at ≤ (job_at (jobs_of run i) k).arrival + (greatest_jitter (timing_at system i).pattern + width)
      = omega (arith, each.done.by, each.from.within, released_within system sound run legal i is k below) in
      omega (arith, each.done.done, climb_mono (executed system run i) (executed_climbs system run i) each.done.at _ by)

  -- and finishes by then
  finishes_by_response : (k : ℕ) → k < length (jobs_of run i)
      → (job_at (jobs_of run i) k).arrival + (greatest_jitter (timing_at system i).pattern + width) ≤ run.table.ticks
      → (t : ℕ) × (t ≤ (job_at (jobs_of run i) k).arrival + (greatest_jitter (timing_at system i).pattern + width))
      × JobFinishes system run i k t
  finishes_by_response k below lasts =
      let last : length (timing_at system i).ranges - 1 < length (timing_at system i).ranges = omega (arith, (sound.tasks i is).some_runnable) in
      finishes_by system run i k (length (timing_at system i).ranges - 1) _ below last lasts (omega (
        arith,
        through_job (jobs_of run i) k (length (timing_at system i).ranges - 1) below
            (omega (arith, last, job_places system sound run legal i is k below)),
        done_by_response k below lasts,
      ))

-- each job of a task with such a window finishes within the response of its arrival, in every legal run that lasts so
-- long
finish_in_window : (system : System) → IsSound system → (i : ℕ) → i < length system.tasks → (block width : ℕ) → HoldsDemand system i block width
    → (response : ℕ) → response ≡ greatest_jitter (timing_at system i).pattern + width → AlwaysFinishesWithin system i response
finish_in_window system sound i is block width holds response same run legal = record {
  each = λ k below lasts.
      let (t, within, finishes) = finishes_by_response system sound run legal i is block width holds k below (omega (arith, lasts, same)) in
      (t, finishes, omega (arith, within, same));
}

-- so it is where a question that asks enough of the task has the response
answered_finish : (system : System) → IsSound system → (i response : ℕ) → IsAnswered system i response → AlwaysFinishesWithin system i response
answered_finish system sound i response answer = finish_in_window system sound i answer.is_task answer.question.block answer.window
    (window_holds system sound i answer.is_task answer.question answer.asks answer.window (answered_window system i response answer))
    response (answered_response system i response answer)

-- so it is for each task of which a question with a window asks enough
pub answers_for : (question : Question) (window : ℕ) → busy_window question ≡ Some window → AnswersFor question (question.jitter + window)
answers_for question window found system sound i is asks = finish_in_window system sound i is question.block window
    (window_holds system sound i is question asks window (window_is_least question window found)) (question.jitter + window) (omega (arith, asks.jitter))

-- and for each task that is settled, by its question or its tight one
pub settled_finish : (system : System) → IsSound system → (i response : ℕ) → IsSettled system i response → AlwaysFinishesWithin system i response
settled_finish system sound i response settled = answered_finish system sound i response (settled_answer system i response settled)

pub settled_timely : (system : System) → IsSound system → (i response : ℕ) → IsSettled system i response → IsTimely system i response
settled_timely system sound i response settled = record {
  is_task = settled.is_task;
  by_deadline = response_in_deadline system i response settled sound;
  always = settled_finish system sound i response settled;
}

pub tightly_timely : (system : System) → IsSound system → (i response : ℕ) → IsTightlySettled system i response → IsTimely system i response
tightly_timely system sound i response settled = record {
  is_task = settled.is_task;
  by_deadline = tight_in_deadline system i response settled sound;
  always = answered_finish system sound i response (tight_answer system i response settled);
}
