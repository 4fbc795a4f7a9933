-- A job with no earlier work of its task left at the last clear moment before its release: by the
-- end of a window from there on that holds the demand of its task, there is a clear moment at which
-- it is done. For what the tasks above release in the window is no more than the most that they
-- can.
use Rattle.std.proofs.Common.{ℕ, ◌+◌, ◌≤◌, ◌<◌, length, arith, mul-le-mul_right}
use Rattle.cl_runs.specs.{TaskTiming.{System, timing_at, IsSound}, Table.job_at, Run.{Run, jobs_of, executed}, Legal.IsLegal, ExecutionTimes.greatest_execution}
use Rattle.cl_runs.proofs.RunArrivals.{follow_pattern}
use Rattle.cl_stim.proofs.Releases.{few_releases}
use Rattle.cl_resp.specs.Clear.{work_of_first, time_released, released_above, needed, IsDoneBy}
use Rattle.cl_resp.proofs.{BusyWindowTotals.{total, total_rises, total_of_range}, BusyWindowTicks.above, BusyWindowDemand.{most_taken, HoldsDemand}, BusyWindowRun.{IsLastClearTo, job_done}}

module _ (system : System) (sound : IsSound system) (run : Run) (legal : IsLegal system run) (i : ℕ) (is : i < length system.tasks) where
  -- what the tasks above release in a window is no more than the most that they can
  pub released_few : (s width : ℕ) → released_above system run i s width ≤ total (above system i) (most_taken system width) (length system.tasks)
  unfolding released_above
  released_few s width = omega (
    arith,
    total_of_range (above system i) (time_released system run s width) (length system.tasks),
    total_rises (above system i) (time_released system run s width) (most_taken system width) (length system.tasks)
        (λ j is_j _. mul-le-mul_right (greatest_execution (timing_at system j)) (few_releases (timing_at system j).pattern (sound.tasks j is_j).pattern
        run.table.ticks (jobs_of run j) (follow_pattern system sound run legal j is_j) s width)),
  )

  -- so a window that holds the demand holds what is needed of it
  holds_needed : (block s width : ℕ) → HoldsDemand system i block width
      → needed system run i (greatest_execution (timing_at system i)) s width ≤ width
  unfolding needed
  holds_needed block s width holds = omega (arith, holds.blocked, holds.enough, released_few s width)

  -- and there is such a moment
  pub done_in_window : (k s block width : ℕ) → k < length (jobs_of run i) → HoldsDemand system i block width
      → IsLastClearTo system run i (job_at (jobs_of run i) k).release s → s + width ≤ run.table.ticks
      → work_of_first run i k ≤ executed system run i s → IsDoneBy system run i k (s + width)
  done_in_window k s block width below holds from h earlier =
      job_done system sound run legal i is k s width below from h earlier (holds_needed block s width holds)
