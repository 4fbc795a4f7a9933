-- chunks and lanes, which are eight
use Rattle.std.specs.Prelude.{◌≡◌, ℕ, ◌+◌, ◌*◌, ◌/◌, ◌<◌, ◌≤◌, List, [], EachIndex, length, slice_index, slice_index_or}
use Rattle.cl_lanes.specs.Inner.Places.{IsGap}

-- the full chunks of a list, with the numbers in their order
pub record AreChunks (numbers : List ℕ) (chunks : List (List ℕ)) : Type 0 where
  pub as_many : length chunks ≡ length numbers / 8
  pub eight : EachIndex chunks (λ chunk. length (slice_index_or chunks chunk []) ≡ 8)
  pub each : (chunk lane : ℕ) → chunk < length chunks → lane < 8
      → slice_index (slice_index_or chunks chunk []) lane ≡ slice_index numbers (chunk * 8 + lane)

-- each lane holds a gap, and none of its own places in the first chunks has a greater one
pub record AreAboveLanes (ends starts : List ℕ) (chunks : ℕ) (lanes : List ℕ) : Type 0 where
  pub eight : length lanes ≡ 8
  pub gaps : EachIndex lanes (λ lane. IsGap ends starts (slice_index lanes lane))
  pub above : (chunk lane : ℕ) → chunk < chunks → lane < 8
      → slice_index ends (chunk * 8 + lane) ≤ slice_index starts (chunk * 8 + lane) + slice_index lanes lane
