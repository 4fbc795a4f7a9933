-- eight gaps at a time
use Rattle.std.proofs.Common.{◌≡◌, ◌≢◌, ℕ, suc, ◌+◌, ◌*◌, ◌-◌, ◌%◌, ◌^◌, ◌<◌, ◌≤◌, Bool, true, false, cond, eqb, List, [], ◌∷◌, length, get_or, map, not, replicate, sym, ap, subst, ◌∙◌, arith, w64}
use Rattle.std.specs.Prelude.{EachIndex}
use Rattle.std.specs.List.{position_or_len}
use Rattle.std.specs.Int.Count.{count_trailing_zeros}
use Rattle.std.specs.Simd.Lanes.{Each2, zip2, mask_l, top}
use Rattle.std.proofs.lemmas.Bool.{eqb-true, eqb-false}
use Rattle.std.proofs.lemmas.List.Sums.{fails_before_first, passes_at_first}
use Rattle.std.proofs.lemmas.Simd.{bitmask_splat, leading_from_mask_l, trailing_mask_l}
use Rattle.cl_lanes.proofs.GapNumbers.{length-gaps, get_or-gaps}
use Rattle.cl_lanes.specs.{Gaps.{gaps, IsFirst}, Inner.Places.{ArePaired, AreWithout}}

-- lanes in order, as a subtraction asks it
pub lanes_in_order : (ends starts : List ℕ) → length ends ≡ length starts → EachIndex ends (λ i. get_or starts i 0 ≤ get_or ends i 0)
    → Each2 (λ end start. start ≤ end) ends starts
lanes_in_order [] starts many ordered = tt
lanes_in_order (end ∷ ends) [] many ordered = tt
lanes_in_order (end ∷ ends) (start ∷ starts) many ordered =
    (ordered 0 (omega arith), lanes_in_order ends starts (omega arith) (λ i below. ordered (suc i) (omega arith)))

-- where a bit of the mask is set, a lane passes
some_lane : {X : Type 0} (p : X → Bool) (xs : List X) → 0 < mask_l (map p xs) → position_or_len p xs < length xs
some_lane p [] some = absurd (omega arith)
some_lane p (x ∷ xs) some =
    elim (p x) as (λ b. 0 < cond b 1 0 + 2 * mask_l (map p xs) → cond (not b) (1 + position_or_len p xs) 0 < suc (length xs)) [
      | true ↦ λ _. omega arith
      | false ↦ λ more. let h = some_lane p xs (omega arith) in omega arith
    ] some

-- the mask of eight lanes that equal a number
abbrev pub mask_of : List ℕ → ℕ → ℕ
mask_of numbers gap = mask_l (map (top 63) (zip2 (λ a b. cond (eqb a b) (2 ^ 64 - 1) 0) numbers (replicate 8 gap))) % 2 ^ 64

-- where it is 0, no lane has the gap
pub no_lane : (ends starts numbers : List ℕ) (gap : ℕ) → numbers ≡ gaps ends starts → ArePaired ends starts → length ends ≡ 8
    → mask_of numbers gap ≡ 0 → AreWithout ends starts 8 gap
no_lane ends starts numbers gap are paired eight zero k low same =
    let long : length numbers ≡ 8 = ap length are ∙ length-gaps ends starts paired.as_many ∙ eight in
    let none = leading_from_mask_l (λ number. eqb number gap) numbers (sym (bitmask_splat w64 eqb numbers 8 gap long (omega arith)) ∙ zero) in
    eqb-false _ _ (fails_before_first (λ number. eqb number gap) numbers k 0 (omega arith))
    (ap (λ xs. get_or xs k 0) are ∙ omega (arith, get_or-gaps ends starts k 0 paired.as_many (omega arith)))

-- else its lowest bit is the first lane that has it
pub lowest_lane : (ends starts numbers : List ℕ) (gap : ℕ) → numbers ≡ gaps ends starts → ArePaired ends starts → length ends ≡ 8
    → mask_of numbers gap ≢ 0 → IsFirst ends starts gap (count_trailing_zeros 64 (mask_of numbers gap))
lowest_lane ends starts numbers gap are paired eight some =
    let long : length numbers ≡ 8 = ap length are ∙ length-gaps ends starts paired.as_many ∙ eight in
    let mask = bitmask_splat w64 eqb numbers 8 gap long (omega arith) in
    let set : 0 < mask_l (map (λ number. eqb number gap) numbers) = omega arith in
    let lane : ℕ = position_or_len (λ number. eqb number gap) numbers in
    let within = some_lane (λ number. eqb number gap) numbers set in
    let low : lane < 8 = omega arith in
    let number_of : (k : ℕ) → k < 8 → get_or numbers k 0 ≡ get_or ends k 0 - get_or starts k 0 =
    λ k low. ap (λ xs. get_or xs k 0) are ∙ get_or-gaps ends starts k 0 paired.as_many (omega arith) in
    subst (IsFirst ends starts gap) (sym (ap (count_trailing_zeros 64) mask ∙ trailing_mask_l (λ number. eqb number gap) 64 numbers (omega arith) set))
    (record {
      within = omega arith;
      here = omega (arith, eqb-true _ _ (passes_at_first (λ number. eqb number gap) numbers 0 within), number_of lane low, paired.in_order lane (omega arith));
      before = λ k early same. eqb-false _ _ (fails_before_first (λ number. eqb number gap) numbers k 0 early) (omega (arith, number_of k (omega arith)));
    })
