use Rattle.std.proofs.Common.{◌+◌, ◌-◌, ◌≤◌}
use Rattle.cl_resp.specs.{Response.NoneServesBelow, Inner.Rising.{taken_in, AreTaken}}
use Rattle.cl_resp.proofs.answering.window.Given as goal

-- no lesser width holds its own demand, and what is kept holds from this one on
abbrev pub invariant-loop-width : goal.invariant-loop-width
invariant-loop-width l = record {
  some : 1 ≤ l.width;
  less : NoneServesBelow l.question l.width;
  kept : AreTaken taken_in l.question.above l.rising.ticks l.rising.until l.width;
}

abbrev pub decreases-loop-width : goal.decreases-loop-width
decreases-loop-width l = l.end + 1 - l.width
