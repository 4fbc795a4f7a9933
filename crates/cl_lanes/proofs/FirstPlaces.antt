-- the first place that has a gap
use Rattle.std.proofs.Common.{◌≡◌, ℕ, ◌+◌, ◌*◌, ◌-◌, ◌<◌, ◌≤◌, cond, eqb, List, [], length, get_or, refl, sym, ap, ◌∙◌, arith, inl, inr, Option, Some, None, MatchOption, position}
use Rattle.std.specs.List.{position_or_len}
use Rattle.std.proofs.lemmas.Bool.{cases_lt, lt-ltb, le-ltb}
use Rattle.std.proofs.lemmas.List.Sums.{position_or_len_is}
use Rattle.cl_lanes.proofs.GapNumbers.{length-gaps, has_gap, lacks_gap}
use Rattle.cl_lanes.specs.{Gaps.{gaps, IsFirst}, Inner.{Chunks.AreChunks, Places.{ArePaired, AreWithout}}}

-- the first lanes of a chunk without the gap, after chunks without it
pub without_more : (ends starts : List ℕ) (end_chunks start_chunks : List (List ℕ)) (i lanes gap : ℕ)
    → AreChunks ends end_chunks → AreChunks starts start_chunks → length ends ≡ length starts → i < length end_chunks → lanes ≤ 8
    → AreWithout ends starts (i * 8) gap → AreWithout (get_or end_chunks i []) (get_or start_chunks i []) lanes gap
    → (places : ℕ) → places ≡ i * 8 + lanes → AreWithout ends starts places gap
without_more ends starts end_chunks start_chunks i lanes gap of_ends of_starts many below low before chunk places are k early same =
    elim (cases_lt k (i * 8)) [
      | inl earlier ↦ before k earlier same
      | inr later ↦
          let place : i * 8 + (k - i * 8) ≡ k = omega arith in
          let end = of_ends.each i (k - i * 8) below (omega arith) ∙ ap (λ n. get_or ends n 0) place in
          let start = of_starts.each i (k - i * 8) (omega (arith, of_ends.as_many, of_starts.as_many)) (omega arith) ∙ ap (λ n. get_or starts n 0) place in
          chunk (k - i * 8) (omega arith) (end ∙ same ∙ ap (λ n. n + gap) (sym start))
    ]

-- the first lane of a chunk with the gap, after chunks without it
pub first_in_chunk : (ends starts : List ℕ) (end_chunks start_chunks : List (List ℕ)) (i gap lane : ℕ)
    → AreChunks ends end_chunks → AreChunks starts start_chunks → length ends ≡ length starts → i < length end_chunks
    → AreWithout ends starts (i * 8) gap → IsFirst (get_or end_chunks i []) (get_or start_chunks i []) gap lane
    → IsFirst ends starts gap (i * 8 + lane)
first_in_chunk ends starts end_chunks start_chunks i gap lane of_ends of_starts many below before first =
    let low : lane < 8 = omega (arith, first.within, of_ends.eight i below) in
    let end = of_ends.each i lane below low in
    let start = of_starts.each i lane (omega (arith, of_ends.as_many, of_starts.as_many)) low in
    record {
      within = omega (arith, of_ends.as_many);
      here = sym end ∙ first.here ∙ ap (λ n. n + gap) start;
      before = without_more ends starts end_chunks start_chunks i lane gap of_ends of_starts many below (omega arith) before first.before _ refl;
    }

-- the first place, as a search of the list of gaps gives it
pub position_of : (ends starts : List ℕ) (gap : ℕ) (result : Option ℕ) → ArePaired ends starts
    → MatchOption result (AreWithout ends starts (length ends) gap) (λ place. IsFirst ends starts gap place)
    → result ≡ position (λ found. eqb found gap) (gaps ends starts)
position_of ends starts gap None paired without =
    let many = length-gaps ends starts paired.as_many in
    let place : position_or_len (λ found. eqb found gap) (gaps ends starts) ≡ length (gaps ends starts) =
    position_or_len_is (λ found. eqb found gap) (gaps ends starts) _ 0 (omega arith)
    (λ k below. lacks_gap ends starts k gap paired (omega arith) (without k (omega arith))) (λ below. absurd (omega arith)) in
    sym (ap (λ b. cond b (Some (position_or_len (λ found. eqb found gap) (gaps ends starts))) None) (le-ltb _ _ (omega (arith, place))))
position_of ends starts gap (Some i) paired first =
    let many = length-gaps ends starts paired.as_many in
    let place : position_or_len (λ found. eqb found gap) (gaps ends starts) ≡ i =
    position_or_len_is (λ found. eqb found gap) (gaps ends starts) i 0 (omega (arith, first.within))
    (λ k below. lacks_gap ends starts k gap paired (omega (arith, first.within)) (first.before k below))
    (λ below. has_gap ends starts i gap paired first.within first.here) in
    sym (ap (λ b. cond b (Some (position_or_len (λ found. eqb found gap) (gaps ends starts))) None) (lt-ltb _ _ (omega (arith, place, first.within))) ∙ ap Some place)
