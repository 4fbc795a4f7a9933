use Rattle.std.proofs.Common.{ℕ, ◌<◌, ◌≤◌, slice_index}
use Rattle.cl_lanes.specs.Inner.Places.{IsGap}
use Rattle.cl_lanes.proofs.greatest.greatest_in_chunks.Given as goal

abbrev pub invariant-loop-lane : goal.invariant-loop-lane
invariant-loop-lane l = record {
  one_of : IsGap l.ends l.starts l.greatest;
  above : (k : ℕ) → k < l.lane-index → slice_index l.lane-items k ≤ l.greatest;
}
