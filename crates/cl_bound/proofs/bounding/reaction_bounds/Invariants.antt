use Rattle.std.proofs.Common.{◌≡◌, ℕ, ◌+◌, ◌-◌, ◌*◌, ◌^◌, ◌<◌, ◌≤◌, length, take, drop}
use Rattle.std.specs.Prelude.{slice_index}
use Rattle.cl_runs.specs.SystemOf.{system_of}
use Rattle.cl_stim.specs.Integers.{IsIntegerWithin}
use Rattle.cl_hop.specs.Sums.{sums_of}
use Rattle.cl_bound.specs.Bounds.{settled_timings, bounds_of}
use Rattle.cl_bound.proofs.bounding.reaction_bounds.Given as goal

abbrev pub invariant-loop-place : goal.invariant-loop-place
invariant-loop-place g l = record {
  some : 1 ≤ l.place;
  room : length l.reactions ≡ 64;
  sums : l.sums ≡ sums_of l.first (take (l.place - 1) (settled_timings (system_of l.model) (drop 1 l.groups)));
  forward : IsIntegerWithin (l.place * 2 ^ 65) l.sums.forward;
  backward : IsIntegerWithin (l.place * 2 ^ 65) l.sums.backward;
  found : (place : ℕ) → place < l.place → slice_index l.reactions place ≡ (bounds_of (system_of l.model) (take (place + 1) l.groups)).reaction;
}
