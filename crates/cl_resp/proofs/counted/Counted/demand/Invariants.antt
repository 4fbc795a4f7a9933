use Rattle.std.proofs.Common.{◌≡◌, ◌*◌, ◌≤◌, take}
use Rattle.std.specs.Prelude.{sum_by}
use Rattle.cl_stim.specs.declared.arrivals.TheConstants.{MOST_WIDTH}
use Rattle.cl_resp.specs.Inner.{Phased.time_in_phase, Rising.{taken_from, AreTaken}}
use Rattle.cl_resp.proofs.counted.Counted.demand.Given as goal

-- what is needed is what the tasks so far take, each of them few ticks
abbrev pub invariant-loop-place : goal.invariant-loop-place
invariant-loop-place l = record {
  needed : l.needed ≡ sum_by (time_in_phase l.start l.width) (take l.place l.question.in_phase);
  small : l.needed ≤ l.place * MOST_WIDTH;
  kept : AreTaken (taken_from l.start) l.question.in_phase l.self.ticks l.self.until l.width;
}
