-- the greatest gap over places
use Rattle.std.proofs.Common.{◌≡◌, ℕ, ◌+◌, ◌*◌, ◌/◌, ◌%◌, ◌<◌, ◌≤◌, List, length, get_or, max, subst, arith, inl, inr}
use Rattle.std.proofs.lemmas.Bool.{cases_lt}
use Rattle.cl_lanes.proofs.GapNumbers.{length-gaps, get_or-gaps}
use Rattle.cl_lanes.specs.{Gaps.{gaps, IsGreatest}, Inner.{Chunks.AreAboveLanes, Places.{IsAbove, IsGap}}}

-- the greater of two gaps is a gap
pub greater_gap : (ends starts : List ℕ) (a b greater : ℕ) → greater ≡ max a b → IsGap ends starts a → IsGap ends starts b → IsGap ends starts greater
greater_gap ends starts a b greater is first second =
    elim (cases_lt a b) [
      | inl less ↦ subst (IsGap ends starts) (omega arith) second
      | inr more ↦ subst (IsGap ends starts) (omega arith) first
    ]

-- what is at least each lane is at least each gap of the chunks
pub above_chunks : (ends starts lanes : List ℕ) (greatest : ℕ) → AreAboveLanes ends starts (length ends / 8) lanes
    → ((k : ℕ) → k < 8 → get_or lanes k 0 ≤ greatest) → IsAbove ends starts (length ends / 8 * 8) greatest
above_chunks ends starts lanes greatest by_lane above k below =
    let place : k / 8 * 8 + k % 8 ≡ k = omega arith in
    subst (λ place. get_or ends place 0 ≤ get_or starts place 0 + greatest) place
    (omega (arith, by_lane.above (k / 8) (k % 8) (omega arith) (omega arith), above (k % 8) (omega arith)))

-- a gap that is at least each is the greatest of the list
pub greatest_of : (ends starts : List ℕ) (greatest : ℕ) → length ends ≡ length starts → IsGap ends starts greatest → IsAbove ends starts (length ends) greatest
    → IsGreatest (gaps ends starts) greatest
greatest_of ends starts greatest many one above = record {
  one_of = (one.0, omega (arith, one.1, length-gaps ends starts many), omega (arith, get_or-gaps ends starts one.0 greatest many one.1, one.2));
  above_all = λ k d below.
      let within : k < length ends = omega (arith, length-gaps ends starts many) in
      omega (arith, get_or-gaps ends starts k d many within, above k within);
}

-- a list has one greatest number
pub one_greatest : (numbers : List ℕ) (a b : ℕ) → IsGreatest numbers a → IsGreatest numbers b → a ≡ b
one_greatest numbers a b first second =
    let below = second.above_all first.one_of.0 a first.one_of.1 in
    let above = first.above_all second.one_of.0 b second.one_of.1 in
    omega (arith, first.one_of.2, second.one_of.2)
