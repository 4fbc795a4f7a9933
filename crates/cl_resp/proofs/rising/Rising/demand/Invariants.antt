use Rattle.std.proofs.Common.{◌≡◌, ◌+◌, ◌*◌, ◌≤◌, take}
use Rattle.std.specs.Prelude.{sum_by}
use Rattle.cl_model.specs.declared.limits.TheConstants.{MOST_TICKS, MOST_RUNNABLES}
use Rattle.cl_stim.specs.declared.arrivals.TheConstants.{MOST_WIDTH}
use Rattle.cl_resp.specs.{declared.question.Above.Above, Inner.Rising.{taken_in, AreTaken}}
use Rattle.cl_resp.proofs.rising.Rising.demand.Given as goal

-- what is needed is the demand of the tasks so far, each of which takes few ticks
abbrev pub invariant-loop-place : goal.invariant-loop-place
invariant-loop-place l = record {
  needed : l.needed ≡ l.question.block + l.question.time + sum_by (λ (above : Above). taken_in above l.width) (take l.place l.question.above);
  small : l.needed ≤ MOST_TICKS + MOST_RUNNABLES * MOST_TICKS + l.place * MOST_WIDTH;
  kept : AreTaken taken_in l.question.above l.self.ticks l.self.until l.width;
}
