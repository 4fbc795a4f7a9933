use Rattle.std.proofs.Common.{◌≡◌, ◌+◌, ◌*◌, ◌^◌, ◌≤◌}
use Rattle.cl_model.specs.declared.limits.TheConstants.{MOST_TICKS, MOST_RUNNABLES}
use Rattle.cl_runs.specs.{TaskTiming.timing_at, SystemOf.system_of, Priorities.is_above}
use Rattle.cl_resp.proofs.BusyWindowTotals.{total}
use Rattle.cl_why.specs.Windows.{time_in_window}
use Rattle.cl_why.proofs.window.Window.demand.Given as goal

-- what is asked by the tasks so far, each of which takes little enough that all of them fit
abbrev pub invariant-loop-other : goal.invariant-loop-other
invariant-loop-other l = record {
  demand : l.demand ≡ l.self.block + l.self.time
      + total (λ other. is_above (timing_at (system_of l.model) l.self.task) (timing_at (system_of l.model) other)) (time_in_window l.model l.self.task l.self.worst) l.other;
  small : l.demand ≤ 2 ^ 65 + l.other * (2 ^ 64 * (MOST_RUNNABLES * MOST_TICKS));
}
