use Rattle.std.proofs.Common.{◌≡◌, ℕ, ◌<◌, ◌≤◌, length, slice_index}
use Rattle.cl_exact.specs.Inner.{Beats.hop_to, Blocks.IsReadUpTo}
use Rattle.cl_exact.proofs.hop.hop.Given as goal

abbrev pub invariant-loop-i : goal.invariant-loop-i
invariant-loop-i l = record {
  done : (k : ℕ) → k < l.i → slice_index l.moments k ≡ hop_to l.reader (slice_index l.initial.moments k);
  left : (k : ℕ) → l.i ≤ k → k < length l.moments → slice_index l.moments k ≡ slice_index l.initial.moments k;
  read : (k : ℕ) → l.i ≤ k → k < length l.moments → IsReadUpTo l.reader l.read (slice_index l.initial.moments k);
}
