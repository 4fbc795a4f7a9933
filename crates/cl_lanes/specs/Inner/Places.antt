-- gaps over some of the places
use Rattle.std.specs.Prelude.{◌≡◌, ℕ, ◌+◌, ◌<◌, ◌≤◌, List, EachIndex, SomeIndex, length, slice_index}
use Rattle.cl_lanes.specs.Gaps.{HasGap}

-- as many ends as starts, and each end at or after its start
pub record ArePaired (ends starts : List ℕ) : Type 0 where
  pub as_many : length ends ≡ length starts
  pub in_order : EachIndex ends (λ i. slice_index starts i ≤ slice_index ends i)

-- some place has the gap
abbrev pub IsGap : (ends starts : List ℕ) (gap : ℕ) → Type 0
IsGap ends starts gap = SomeIndex ends (λ place. HasGap ends starts gap place)

-- none of the first places has a greater gap
abbrev pub IsAbove : (ends starts : List ℕ) (places gap : ℕ) → Type 0
IsAbove ends starts places gap = (k : ℕ) → k < places → slice_index ends k ≤ slice_index starts k + gap

-- none of the first places has the gap
abbrev pub AreWithout : (ends starts : List ℕ) (places gap : ℕ) → Type 0
AreWithout ends starts places gap = (k : ℕ) → k < places → ¬ HasGap ends starts gap k
