use Rattle.cl_lanes.specs.Inner.Chunks.{AreAboveLanes}
use Rattle.cl_lanes.proofs.greatest.greatest_by_lane.Given as goal

abbrev pub invariant-loop-i : goal.invariant-loop-i
invariant-loop-i l = AreAboveLanes l.ends l.starts l.i l.greatest
