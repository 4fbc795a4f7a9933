use Rattle.std.proofs.Common.{◌+◌, ◌-◌, ◌≤◌}
use Rattle.cl_resp.specs.Inner.{Phased.{asked_of, NoneBefore}, Rising.{taken_in, taken_from, AreTaken}}
use Rattle.cl_resp.proofs.phased.PhasedQuestion.window_from.Given as goal

-- no lesser width holds its own demand, and what is kept holds from this one on
abbrev pub invariant-loop-width : goal.invariant-loop-width
invariant-loop-width l = record {
  some : 1 ≤ l.width;
  none : NoneBefore (asked_of l.self) l.start l.width;
  beside : AreTaken taken_in l.self.beside.above l.beside.ticks l.beside.until l.width;
  in_phase : AreTaken (taken_from l.start) l.self.in_phase l.counted.ticks l.counted.until l.width;
}

abbrev pub decreases-loop-width : goal.decreases-loop-width
decreases-loop-width l = l.most + 1 - l.width
