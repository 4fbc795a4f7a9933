use Rattle.std.proofs.Common.{◌*◌}
use Rattle.cl_lanes.specs.Inner.Places.{AreWithout}
use Rattle.cl_lanes.proofs.first.first_in_chunks.Given as goal

abbrev pub invariant-loop-i : goal.invariant-loop-i
invariant-loop-i l = AreWithout l.ends l.starts (l.i * 8) l.gap
