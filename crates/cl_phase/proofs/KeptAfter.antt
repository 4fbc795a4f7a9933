-- The phases that are kept after some groups are those of the groups: their hyperperiod and their fewest arrivals don't
-- depend on the order. Times are in ticks.
use Rattle.std.proofs.Common.{◌≡◌, ℕ, ◌-◌, ◌^◌, ◌≤◌, List, [], ◌∷◌, ◌++◌, map, min, All, Option, Some, None, refl, ◌∙◌, arith}
use Rattle.std.proofs.lemmas.Nat.Gcd.{dvd_antisymm}
use Rattle.std.proofs.lemmas.List.Elements.{All-head, All-tail, All-cons, All-nil}
use Rattle.cl_stim.specs.{declared.phase.Phase.Phase, Phase.{IsPhaseInRange, arrivals_in}, Multiples.hyperperiod_of}
use Rattle.cl_phase.specs.{declared.{pace.Pace.{Pace, TheVariants.{Kept, Free}}, keeping.Keeping.Keeping, stop.Stop.Stop}, Kept.{kept_with, pace_with, phases_in}, Inner.Keeping.{fewest_in, AreKept, AreKeptIn}}
use Rattle.cl_phase.proofs.{KeptPhases.have_periods, SlowestGroups.pace_of}
use Rattle.cl_stim.proofs.Hyperperiods.{Divides, hyperperiod_divided, hyperperiod_least}

-- the phase that a pace keeps
abbrev pub phase_in : Pace → Option Phase
phase_in (Kept phase) = Some phase
phase_in (Free greatest) = None

-- the phases that are kept after groups with these paces
abbrev pub kept_after : (kept : List Phase) → List Pace → List Phase
kept_after kept [] = kept
kept_after kept (pace ∷ paces) = kept_after (kept_with kept (phase_in pace)) paces

pub after_more : (kept : List Phase) (paces : List Pace) (pace : Pace)
    → kept_after kept (paces ++ pace ∷ []) ≡ kept_with (kept_after kept paces) (phase_in pace)
after_more kept [] pace = refl
after_more kept (first ∷ paces) pace = after_more (kept_with kept (phase_in first)) paces pace

pub phase_of_pace : (greatest : ℕ) (phase : Option Phase) → phase_in (pace_with greatest phase) ≡ phase
phase_of_pace greatest None = refl
phase_of_pace greatest (Some phase) = refl

-- what holds of all of the ones holds of all of the others
all_after : (P : Phase → Type 0) (kept : List Phase) (paces : List Pace) → All P (kept_after kept paces) → All P kept × All P (phases_in paces)
unfolding phases_in
all_after P kept [] all = (all, All-nil P)
all_after P kept (Kept phase ∷ paces) all =
    let both = all_after P (phase ∷ kept) paces all in
    (All-tail P phase kept both.0, All-cons P phase (phases_in paces) (All-head P phase kept both.0) both.1)
all_after P kept (Free greatest ∷ paces) all = all_after P kept paces all

after_all : (P : Phase → Type 0) (kept : List Phase) (paces : List Pace) → All P kept → All P (phases_in paces) → All P (kept_after kept paces)
unfolding phases_in
after_all P kept [] all others = all
after_all P kept (Kept phase ∷ paces) all others =
    after_all P (phase ∷ kept) paces (All-cons P phase kept (All-head P phase (phases_in paces) others) all) (All-tail P phase (phases_in paces) others)
after_all P kept (Free greatest ∷ paces) all others = after_all P kept paces all others

module _ (paces : List Pace) (are : All IsPhaseInRange (kept_after [] paces)) where
  those : All IsPhaseInRange (phases_in paces)
  those = (all_after IsPhaseInRange [] paces are).1

  same_hyperperiod : hyperperiod_of (kept_after [] paces) ≡ hyperperiod_of (phases_in paces)
  same_hyperperiod =
      let one = hyperperiod_of (kept_after [] paces) in
      let other = hyperperiod_of (phases_in paces) in
      let periods = have_periods (kept_after [] paces) are in
      let those_periods = have_periods (phases_in paces) those in
      dvd_antisymm
      (hyperperiod_least (kept_after [] paces) periods other
      (after_all (Divides other) [] paces (All-nil (Divides other)) (hyperperiod_divided (phases_in paces) those_periods)))
      (hyperperiod_least (phases_in paces) those_periods one (all_after (Divides one) [] paces (hyperperiod_divided (kept_after [] paces) periods)).1)

fewest_fits : (ticks : ℕ) (phases : List Phase) → fewest_in ticks phases ≤ 2 ^ 64 - 1
fewest_fits ticks [] = omega arith
fewest_fits ticks (phase ∷ phases) = least (arrivals_in ticks phase) (fewest_in ticks phases) (2 ^ 64 - 1) (fewest_fits ticks phases)
  where
    least : (m n most : ℕ) → n ≤ most → min m n ≤ most
    least m n most h = omega (arith, h)

-- the fewest of phases and of others
fewest_after : (ticks : ℕ) (kept : List Phase) (paces : List Pace)
    → fewest_in ticks (kept_after kept paces) ≡ min (fewest_in ticks kept) (fewest_in ticks (phases_in paces))
unfolding phases_in
fewest_after ticks kept [] = whole (fewest_in ticks kept) (2 ^ 64 - 1) (fewest_fits ticks kept)
  where
    whole : (m most : ℕ) → m ≤ most → m ≡ min m most
    whole m most h = omega (arith, h)
fewest_after ticks kept (Kept phase ∷ paces) =
    fewest_after ticks (phase ∷ kept) paces ∙ turned (arrivals_in ticks phase) (fewest_in ticks kept) (fewest_in ticks (phases_in paces))
  where
    turned : (a b c : ℕ) → min (min a b) c ≡ min b (min a c)
    turned a b c = omega arith
fewest_after ticks kept (Free greatest ∷ paces) = fewest_after ticks kept paces

same_fewest : (ticks : ℕ) (paces : List Pace) → fewest_in ticks (kept_after [] paces) ≡ fewest_in ticks (phases_in paces)
same_fewest ticks paces = fewest_after ticks [] paces ∙ least (fewest_in ticks (phases_in paces)) (2 ^ 64 - 1) (fewest_fits ticks (phases_in paces))
  where
    least : (m most : ℕ) → m ≤ most → min most m ≡ m
    least m most h = omega (arith, h)

-- so what is known of the ones is known of the others
pub kept_in : (stops : List Stop) (keeping : Keeping) → AreKept (kept_after [] (map pace_of stops)) keeping → AreKeptIn stops keeping
kept_in stops keeping are =
    let paces = map pace_of stops in
    record {
      hyperperiod = are.hyperperiod ∙ same_hyperperiod paces are.phases;
      fewest = are.fewest ∙ same_fewest keeping.hyperperiod paces;
      short = are.short;
    }
