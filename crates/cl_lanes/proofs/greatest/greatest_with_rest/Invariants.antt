use Rattle.cl_lanes.specs.Inner.Places.{IsAbove, IsGap}
use Rattle.cl_lanes.proofs.greatest.greatest_with_rest.Given as goal

abbrev pub invariant-loop-i : goal.invariant-loop-i
invariant-loop-i l = record { one_of : IsGap l.ends l.starts l.greatest; above : IsAbove l.ends l.starts l.i l.greatest }
