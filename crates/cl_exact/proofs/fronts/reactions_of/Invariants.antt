use Rattle.std.proofs.Common.{◌≡◌, ℕ, ◌+◌, ◌<◌, ◌≤◌, None, length, take}
use Rattle.std.specs.Prelude.{slice_index_or}
use Rattle.cl_exact.specs.Inner.Fronts.{IsReactionOfBeats}
use Rattle.cl_exact.proofs.fronts.reactions_of.Given as goal

abbrev pub invariant-loop-place : goal.invariant-loop-place
invariant-loop-place l = record {
  room : length l.reactions ≡ 64;
  found : (place : ℕ) → place < l.place → IsReactionOfBeats (take (place + 1) l.beats) (slice_index_or l.reactions place None);
  rest : (place : ℕ) → l.place ≤ place → slice_index_or l.reactions place None ≡ None;
}
