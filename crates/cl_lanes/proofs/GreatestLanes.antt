-- the greatest gap in each lane
use Rattle.std.proofs.Common.{◌≡◌, ℕ, ◌+◌, ◌*◌, ◌-◌, ◌^◌, ◌<◌, ◌≤◌, true, false, cond, ltb, List, [], length, get_or, map, refl, sym, ap, subst, ◌∙◌, arith, inl, inr, w64}
use Rattle.std.specs.Simd.Lanes.{zip2, sel_l, top}
use Rattle.std.proofs.lemmas.Bool.{cases_lt, ltb-true, ltb-false}
use Rattle.std.proofs.lemmas.Simd.{tops_compared, length-zip2, get_or-zip2, length-sel_l, get_or-sel_l}
use Rattle.cl_lanes.proofs.GapNumbers.{length-gaps, get_or-gaps}
use Rattle.cl_lanes.specs.{Gaps.{gaps, HasGap}, Inner.{Chunks.{AreAboveLanes, AreChunks}, Places.{ArePaired, IsGap}}}

-- the greater of two numbers, as lanes are chosen
abbrev greater : ℕ → ℕ → ℕ
greater a b = cond (ltb a b) b a

greater_either : (P : ℕ → Type 0) (a b : ℕ) → P a → P b → P (greater a b)
greater_either P a b p q = elim (ltb a b) as (λ t. P (cond t b a)) [ true ↦ q | false ↦ p ]

le-greater : (a b : ℕ) → (a ≤ greater a b) × (b ≤ greater a b)
le-greater a b =
    elim (ltb a b) as (λ t. (t ≡ true → a < b) → (t ≡ false → b ≤ a) → (a ≤ cond t b a) × (b ≤ cond t b a)) [
      | true ↦ λ less _. let lt = less refl in (omega arith, omega arith)
      | false ↦ λ _ more. let le = more refl in (omega arith, omega arith)
    ] (ltb-true a b) (ltb-false a b)

-- the greater of each two lanes
abbrev pub greater_lanes : (lanes numbers : List ℕ) → List ℕ
greater_lanes lanes numbers = sel_l (map (top 63) (zip2 (λ a b. cond (ltb a b) (2 ^ 64 - 1) 0) lanes numbers)) numbers lanes

chosen : (lanes numbers : List ℕ) → greater_lanes lanes numbers ≡ sel_l (zip2 ltb lanes numbers) numbers lanes
chosen lanes numbers = ap (λ tests. sel_l tests numbers lanes) (tops_compared w64 ltb lanes numbers)

length-greater_lanes : (lanes numbers : List ℕ) → length lanes ≡ length numbers → length (greater_lanes lanes numbers) ≡ length lanes
length-greater_lanes lanes numbers many =
    let tests = length-zip2 ltb lanes numbers many in
    ap length (chosen lanes numbers) ∙ length-sel_l _ numbers lanes (tests ∙ many) tests ∙ tests

get_or-greater_lanes : (lanes numbers : List ℕ) (k : ℕ) → length lanes ≡ length numbers → k < length lanes
    → get_or (greater_lanes lanes numbers) k 0 ≡ greater (get_or lanes k 0) (get_or numbers k 0)
get_or-greater_lanes lanes numbers k many below =
    ap (λ xs. get_or xs k 0) (chosen lanes numbers)
    ∙ get_or-sel_l (zip2 ltb lanes numbers) numbers lanes k 0 (omega (arith, length-zip2 ltb lanes numbers many)) (omega arith) below
    ∙ ap (λ t. cond t (get_or numbers k 0) (get_or lanes k 0)) (get_or-zip2 ltb lanes numbers k 0 0 false below (omega arith))

-- the gaps of two chunks are eight
pub length-chunk_gaps : (ends starts : List ℕ) (end_chunks start_chunks : List (List ℕ)) (i : ℕ) (numbers : List ℕ)
    → AreChunks ends end_chunks → AreChunks starts start_chunks → ArePaired ends starts → i < length end_chunks
    → numbers ≡ gaps (get_or end_chunks i []) (get_or start_chunks i []) → length numbers ≡ 8
length-chunk_gaps ends starts end_chunks start_chunks i numbers of_ends of_starts paired below are =
    let second : i < length start_chunks = omega (arith, of_ends.as_many, of_starts.as_many, paired.as_many) in
    let many = of_ends.eight i below ∙ sym (of_starts.eight i second) in
    ap length are ∙ length-gaps (get_or end_chunks i []) (get_or start_chunks i []) many ∙ of_ends.eight i below

-- each is that of its place
pub chunk_gap : (ends starts : List ℕ) (end_chunks start_chunks : List (List ℕ)) (i : ℕ) (numbers : List ℕ)
    → AreChunks ends end_chunks → AreChunks starts start_chunks → ArePaired ends starts → i < length end_chunks
    → numbers ≡ gaps (get_or end_chunks i []) (get_or start_chunks i [])
    → (lane : ℕ) → lane < 8 → HasGap ends starts (get_or numbers lane 0) (i * 8 + lane)
chunk_gap ends starts end_chunks start_chunks i numbers of_ends of_starts paired below are lane low =
    let second : i < length start_chunks = omega (arith, of_ends.as_many, of_starts.as_many) in
    let many = of_ends.eight i below ∙ sym (of_starts.eight i second) in
    let here = ap (λ xs. get_or xs lane 0) are in
    let gap = get_or-gaps (get_or end_chunks i []) (get_or start_chunks i []) lane 0 many (omega (arith, of_ends.eight i below)) in
    let end = of_ends.each i lane below low in
    let start = of_starts.each i lane second low in
    omega (arith, paired.in_order (i * 8 + lane) (omega (arith, of_ends.as_many)))

-- the lanes after one more chunk, of which each lane is the gap of its place
pub more_lanes : (ends starts : List ℕ) (i : ℕ) (lanes numbers : List ℕ) → (i + 1) * 8 ≤ length ends → length numbers ≡ 8
    → ((lane : ℕ) → lane < 8 → HasGap ends starts (get_or numbers lane 0) (i * 8 + lane))
    → AreAboveLanes ends starts i lanes → AreAboveLanes ends starts (i + 1) (greater_lanes lanes numbers)
more_lanes ends starts i lanes numbers room eight here so_far =
    let many : length lanes ≡ length numbers = so_far.eight ∙ sym eight in
    let longer : length (greater_lanes lanes numbers) ≡ 8 = length-greater_lanes lanes numbers many ∙ so_far.eight in
    let after = λ (k : ℕ) (low : k < 8). get_or-greater_lanes lanes numbers k many (omega (arith, so_far.eight)) in
    record {
      eight = longer;
      gaps = λ k within.
          let low : k < 8 = omega arith in
          let old = so_far.gaps k (omega (arith, so_far.eight)) in
          let new : IsGap ends starts (get_or numbers k 0) = (i * 8 + k, omega arith, here k low) in
          subst (IsGap ends starts) (sym (after k low)) (greater_either (IsGap ends starts) (get_or lanes k 0) (get_or numbers k 0) old new);
      above = λ m k earlier low.
          let most = le-greater (get_or lanes k 0) (get_or numbers k 0) in
          let now = after k low in
          elim (cases_lt m i) [
            | inl before ↦ omega (arith, so_far.above m k before low)
            | inr later ↦
                let last : i ≡ m = omega arith in
                let its : HasGap ends starts (get_or numbers k 0) (m * 8 + k) = subst (λ n. HasGap ends starts (get_or numbers k 0) (n * 8 + k)) last (here k low) in
                omega arith
          ];
    }
