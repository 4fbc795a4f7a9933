use Rattle.std.proofs.Common.{◌≡◌, ◌+◌, ◌*◌, ◌^◌, ◌≤◌, take}
use Rattle.std.specs.Prelude.{sum_by}
use Rattle.cl_model.specs.declared.limits.TheConstants.{MOST_TICKS, MOST_RUNNABLES, MOST_TASKS_OF_CORE}
use Rattle.cl_resp.specs.{Response.demand, Inner.Phased.time_in_phase}
use Rattle.cl_resp.proofs.phased.PhasedQuestion.demand.Given as goal

-- what is needed is the demand of the tasks beside and of those in phase so far, each of which
-- takes little enough that all of them fit
abbrev pub invariant-loop-above : goal.invariant-loop-above
invariant-loop-above l = record {
  needed : l.needed ≡ demand l.self.beside l.width + sum_by (time_in_phase l.start l.width) (take l.above-index l.self.in_phase);
  small : l.needed ≤ 2 ^ 64 + MOST_TASKS_OF_CORE * (2 ^ 64 * (MOST_RUNNABLES * MOST_TICKS)) + l.above-index * (2 ^ 64 * (MOST_RUNNABLES * MOST_TICKS));
}
