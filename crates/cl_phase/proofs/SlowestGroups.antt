-- Which group of a chain is the slowest. Times are in ticks.
use Rattle.std.proofs.Common.{◌≡◌, ℕ, zero, suc, ◌+◌, ◌-◌, ◌^◌, ◌<◌, ◌≤◌, Bool, true, false, cond, nat_le, ◌&&◌, List, [], ◌∷◌, map, min, length, Option, Some, None, find, unwrap_or, refl, ap, sym, ◌∙◌, arith}
use Rattle.std.specs.List.{list_all, range_with_len}
use Rattle.std.proofs.lemmas.Bool.Decides.{nat_tests}
use Rattle.cl_stim.specs.{declared.phase.Phase.Phase, Phase.arrivals_in}
use Rattle.cl_phase.specs.{declared.{pace.Pace.{Pace, TheVariants.{Kept, Free}}, stop.Stop.Stop, keeping.Keeping.Keeping}, Kept.phases_in, Walks.pace_at, TightBounds.{has_no_fewer, is_slowest, slowest, hyperperiod_in}, Inner.{Ranges.{LONGEST_HYPERPERIOD, IsPaceInRange}, Keeping.fewest_in}}
use Rattle.cl_phase.specs.Inner.Keeping.{AreKeptIn, arrives_seldom}
use Rattle.cl_phase.proofs.FewestArrivals.{arrivals_few}

-- a phase has no more arrivals than 64 bits hold
abbrev pub HasFewArrivals : (ticks : ℕ) → Pace → Type 0
HasFewArrivals ticks (Kept phase) = arrivals_in ticks phase ≤ 2 ^ 64 - 1
HasFewArrivals ticks (Free greatest) = Unit {0}

both_by_least : (k m n : ℕ) → (nat_le k m && nat_le k n) ≡ nat_le k (min m n)
both_by_least k m n = grind (arith, nat_tests)

fits : (k most : ℕ) → k ≤ most → true ≡ nat_le k most
fits k most less = grind (arith, nat_tests)

abbrev pub pace_of : Stop → Pace
pace_of stop = stop.pace

-- a phase has no fewer arrivals than any where it has at most the fewest
no_fewer_by_fewest : (ticks : ℕ) (phase : Phase) → arrivals_in ticks phase ≤ 2 ^ 64 - 1 → (paces : List Pace)
    → list_all (has_no_fewer ticks phase) paces ≡ nat_le (arrivals_in ticks phase) (fewest_in ticks (phases_in paces))
unfolding phases_in
no_fewer_by_fewest ticks phase few [] = fits (arrivals_in ticks phase) (2 ^ 64 - 1) few
no_fewer_by_fewest ticks phase few (Kept other ∷ paces) =
    ap (λ b. nat_le (arrivals_in ticks phase) (arrivals_in ticks other) && b) (no_fewer_by_fewest ticks phase few paces)
    ∙ both_by_least (arrivals_in ticks phase) (arrivals_in ticks other) (fewest_in ticks (phases_in paces))
no_fewer_by_fewest ticks phase few (Free greatest ∷ paces) = no_fewer_by_fewest ticks phase few paces

pub along : (test : Pace → Bool) (stops : List Stop) → list_all (λ (stop : Stop). test stop.pace) stops ≡ list_all test (map pace_of stops)
along test [] = refl
along test (stop ∷ stops) = ap (λ b. test stop.pace && b) (along test stops)

-- a group is the slowest where it keeps its phase and has at most the fewest
seldom_is_slowest : (stops : List Stop) (ticks : ℕ) (pace : Pace) → HasFewArrivals ticks pace
    → is_slowest stops ticks pace ≡ arrives_seldom ticks (fewest_in ticks (phases_in (map pace_of stops))) pace
seldom_is_slowest stops ticks (Kept phase) few = along (has_no_fewer ticks phase) stops ∙ no_fewer_by_fewest ticks phase few (map pace_of stops)
seldom_is_slowest stops ticks (Free greatest) few = refl

-- ---- the first that passes

find_at : (test : ℕ → Bool) (from len place : ℕ) → place < len → ((before : ℕ) → before < place → test (from + before) ≡ false) → test (from + place) ≡ true
    → find test (range_with_len from len) ≡ Some (from + place)
find_at test from zero place within none passes = absurd (omega (arith, within))
find_at test from (suc len) zero within none passes =
    let here : from + 0 ≡ from = omega arith in
    ap (λ b. cond b (Some from) (find test (range_with_len (from + 1) len))) (ap test (sym here) ∙ passes) ∙ ap Some (sym here)
find_at test from (suc len) (suc place) within none passes =
    let here : from + 0 ≡ from = omega arith in
    let next : from + 1 + place ≡ from + suc place = omega arith in
    ap (λ b. cond b (Some from) (find test (range_with_len (from + 1) len))) (ap test (sym here) ∙ none 0 (omega arith))
    ∙ find_at test (from + 1) len place (omega (arith, within))
    (λ before below.
    let same : from + 1 + before ≡ from + suc before = omega arith in
    ap test same ∙ none (suc before) (omega (arith, below)))
    (ap test next ∙ passes)
    ∙ ap Some next

find_none : (test : ℕ → Bool) (from len : ℕ) → ((before : ℕ) → before < len → test (from + before) ≡ false) → find test (range_with_len from len) ≡ None
find_none test from zero none = refl
find_none test from (suc len) none =
    let here : from + 0 ≡ from = omega arith in
    ap (λ b. cond b (Some from) (find test (range_with_len (from + 1) len))) (ap test (sym here) ∙ none 0 (omega arith))
    ∙ find_none test (from + 1) len
    (λ before below.
    let same : from + 1 + before ≡ from + suc before = omega arith in
    ap test same ∙ none (suc before) (omega (arith, below)))

-- in a hyperperiod that isn't too long groups of a valid model have few arrivals
pub few_arrivals : (ticks : ℕ) → ticks ≤ LONGEST_HYPERPERIOD → (pace : Pace) → IsPaceInRange pace → HasFewArrivals ticks pace
few_arrivals ticks short (Kept phase) is = omega (arith, arrivals_few phase is ticks, short)
few_arrivals ticks short (Free greatest) is = tt

module _ (stops : List Stop) (keeping : Keeping) (kept : AreKeptIn stops keeping)
    (few : (place : ℕ) → place < length stops → HasFewArrivals keeping.hyperperiod (pace_at stops place)) where
  same_test : (place : ℕ) → place < length stops
      → is_slowest stops (hyperperiod_in stops) (pace_at stops place) ≡ arrives_seldom keeping.hyperperiod keeping.fewest (pace_at stops place)
  same_test place within =
      ap (λ ticks. is_slowest stops ticks (pace_at stops place)) (sym kept.hyperperiod)
      ∙ seldom_is_slowest stops keeping.hyperperiod (pace_at stops place) (few place within)
      ∙ ap (λ n. arrives_seldom keeping.hyperperiod n (pace_at stops place)) (sym kept.fewest)

  pub slowest_at : (place : ℕ) → place < length stops
      → ((before : ℕ) → before < place → arrives_seldom keeping.hyperperiod keeping.fewest (pace_at stops before) ≡ false)
      → arrives_seldom keeping.hyperperiod keeping.fewest (pace_at stops place) ≡ true → place ≡ slowest stops
  unfolding slowest
  slowest_at place within none passes =
      sym (ap (λ (o : Option ℕ). unwrap_or o 0) (find_at (λ place. is_slowest stops (hyperperiod_in stops) (pace_at stops place)) 0 (length stops) place within
      (λ before below.
      let same : 0 + before ≡ before = omega arith in
      rw same (same_test before (omega (arith, below, within)) ∙ none before below))
      (let same : 0 + place ≡ place = omega arith in rw same (same_test place within ∙ passes))) ∙ (omega arith))

  pub none_slowest : ((before : ℕ) → before < length stops → arrives_seldom keeping.hyperperiod keeping.fewest (pace_at stops before) ≡ false) → 0 ≡ slowest stops
  unfolding slowest
  none_slowest none =
      sym (ap (λ (o : Option ℕ). unwrap_or o 0) (find_none (λ place. is_slowest stops (hyperperiod_in stops) (pace_at stops place)) 0 (length stops)
      (λ before below.
      let same : 0 + before ≡ before = omega arith in
      rw same (same_test before below ∙ none before below))))
