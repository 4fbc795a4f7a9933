use Rattle.std.proofs.Common.{◌-◌, ◌≤◌}
use Rattle.cl_exact.specs.Inner.Blocks.{AreWrites}
use Rattle.cl_exact.proofs.block.fill_ends.Given as goal

abbrev pub invariant-loop-i : goal.invariant-loop-i
invariant-loop-i l = record {
  some : 1 ≤ l.i;
  writes : AreWrites l.beats (l.i - 1) l.first l.ends;
}
