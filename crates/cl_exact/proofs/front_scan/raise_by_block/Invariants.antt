use Rattle.std.proofs.Common.{◌≡◌, ℕ, ◌+◌, ◌-◌, ◌<◌, ◌≤◌, length, slice_index}
use Rattle.cl_exact.specs.Inner.{Blocks.AreWrites, Fronts.AreGreatestTo}
use Rattle.cl_exact.proofs.front_scan.raise_by_block.Given as goal

abbrev pub invariant-loop-i : goal.invariant-loop-i
invariant-loop-i l = record {
  some : 1 ≤ l.i;
  writes : AreWrites l.beats (l.i - 1) l.first l.ends;
  raised : (from : ℕ) → from ≤ l.first → AreGreatestTo l.beats l.size from l.first l.fn.greatest
      → AreGreatestTo l.beats l.i from (l.first + length l.ends) l.greatest;
  left : (place : ℕ) → l.i ≤ place → place < l.size → slice_index l.greatest place ≡ slice_index l.fn.greatest place;
}
