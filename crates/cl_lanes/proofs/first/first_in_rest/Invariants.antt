use Rattle.cl_lanes.specs.Inner.Places.{AreWithout}
use Rattle.cl_lanes.proofs.first.first_in_rest.Given as goal

abbrev pub invariant-loop-i : goal.invariant-loop-i
invariant-loop-i l = AreWithout l.ends l.starts l.i l.gap
