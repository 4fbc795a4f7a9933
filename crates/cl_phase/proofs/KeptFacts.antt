-- Paces of groups, one after the other: the hyperperiod of the phases that are kept comes round for each, and one that
-- keeps its phase has the fewest arrivals.
use Rattle.std.proofs.Common.{◌≡◌, ℕ, zero, suc, ◌<◌, ◌≤◌, ◌⊎◌, inl, inr, true, All, List, [], ◌∷◌, length, refl, le_trans, le_refl, le_of_lt, arith}
use Rattle.std.specs.Prelude.{slice_index_or}
use Rattle.std.specs.List.{list_all}
use Rattle.std.proofs.lemmas.Bool.{cases_lt, and_from, and_parts, le-leb, leb-true}
use Rattle.std.proofs.lemmas.List.Elements.{All-head, All-tail, All-cons, All-nil}
use Rattle.cl_stim.specs.{declared.phase.Phase.Phase, Phase.arrivals_in, Multiples.hyperperiod_of}
use Rattle.cl_stim.proofs.{TurnFacts.period_some, Hyperperiods.{HasPeriod, Divides, hyperperiod_positive, hyperperiod_divided}}
use Rattle.cl_phase.specs.{declared.pace.Pace.{Pace, TheVariants.{Kept, Free}}, Pace.{IsPace, PaceComesRound}, Kept.phases_in, TightBounds.has_no_fewer}

-- a pace that keeps its phase isn't one without
pub kept_or_free : (phase : Phase) (greatest : ℕ) → Kept phase ≡ Free greatest → ⊥
kept_or_free phase greatest same = grind (arith)

-- the pace of a place
abbrev pub nth_pace : List Pace → (place : ℕ) → Pace
nth_pace paces place = slice_index_or paces place (Free 0)

pub kept_periods : (paces : List Pace) → All IsPace paces → All HasPeriod (phases_in paces)
unfolding phases_in
kept_periods [] all = All-nil HasPeriod
kept_periods (Kept phase ∷ paces) all = All-cons HasPeriod phase (phases_in paces)
    (period_some phase (All-head IsPace (Kept phase) paces all)) (kept_periods paces (All-tail IsPace (Kept phase) paces all))
kept_periods (Free greatest ∷ paces) all = kept_periods paces (All-tail IsPace (Free greatest) paces all)

-- a number that the periods of all kept phases divide comes round for each pace
rounds : (ticks : ℕ) (paces : List Pace) (place : ℕ) → All (Divides ticks) (phases_in paces) → place < length paces → PaceComesRound ticks (nth_pace paces place)
unfolding phases_in
rounds ticks [] place divide within = absurd (omega (arith, within))
rounds ticks (Kept phase ∷ paces) zero divide within = All-head (Divides ticks) phase (phases_in paces) divide
rounds ticks (Kept phase ∷ paces) (suc place) divide within = rounds ticks paces place (All-tail (Divides ticks) phase (phases_in paces) divide) (omega (arith, within))
rounds ticks (Free greatest ∷ paces) zero divide within = tt
rounds ticks (Free greatest ∷ paces) (suc place) divide within = rounds ticks paces place divide (omega (arith, within))

module _ (paces : List Pace) (all : All IsPace paces) where
  pub hyperperiod_rounds : (place : ℕ) → place < length paces → PaceComesRound (hyperperiod_of (phases_in paces)) (nth_pace paces place)
  hyperperiod_rounds place within = rounds (hyperperiod_of (phases_in paces)) paces place
      (hyperperiod_divided (phases_in paces) (kept_periods paces all)) within

  pub hyperperiod_some : 1 ≤ hyperperiod_of (phases_in paces)
  hyperperiod_some = hyperperiod_positive (phases_in paces) (kept_periods paces all)

-- ---- the fewest arrivals

-- some pace keeps its phase, and none that does has fewer arrivals
pub record HasFewest (ticks : ℕ) (paces : List Pace) : Type 0 where
  pub place : ℕ
  pub within : place < length paces
  pub phase : Phase
  pub keeps : nth_pace paces place ≡ Kept phase
  pub fewest : list_all (has_no_fewer ticks phase) paces ≡ true

-- none keeps its phase
abbrev pub NoneKeeps : List Pace → Type 0
NoneKeeps paces = (place : ℕ) → place < length paces → (greatest : ℕ) × (nth_pace paces place ≡ Free greatest)

module _ (ticks : ℕ) where
  no_fewer_than_none : (phase : Phase) (paces : List Pace) → NoneKeeps paces → list_all (has_no_fewer ticks phase) paces ≡ true
  no_fewer_than_none phase [] none = refl
  no_fewer_than_none phase (Kept other ∷ paces) none = absurd (kept_or_free other (none 0 (omega arith)).0 (none 0 (omega arith)).1)
  no_fewer_than_none phase (Free greatest ∷ paces) none = no_fewer_than_none phase paces (λ place within. none (suc place) (omega (arith, within)))

  -- what has no fewer than another has no fewer than others than which that has no fewer
  through : (phase other : Phase) → arrivals_in ticks phase ≤ arrivals_in ticks other → (paces : List Pace)
      → list_all (has_no_fewer ticks other) paces ≡ true → list_all (has_no_fewer ticks phase) paces ≡ true
  through phase other less [] all = refl
  through phase other less (Kept third ∷ paces) all =
      let both = and_parts (has_no_fewer ticks other (Kept third)) (list_all (has_no_fewer ticks other) paces) all in
      and_from (has_no_fewer ticks phase (Kept third)) (list_all (has_no_fewer ticks phase) paces)
      (le-leb _ _ (le_trans less (leb-true _ _ both.0))) (through phase other less paces both.1)
  through phase other less (Free greatest ∷ paces) all = through phase other less paces all

  fewest_with : (phase : Phase) (paces : List Pace) → HasFewest ticks paces → HasFewest ticks (Kept phase ∷ paces)
  fewest_with phase paces has = elim (cases_lt (arrivals_in ticks has.phase) (arrivals_in ticks phase)) [
    | inl less ↦ record {
      place = suc has.place;
      within = omega (arith, has.within);
      phase = has.phase;
      keeps = has.keeps;
      fewest = and_from (has_no_fewer ticks has.phase (Kept phase)) (list_all (has_no_fewer ticks has.phase) paces) (le-leb _ _ (le_of_lt less)) has.fewest;
    }
    | inr not ↦ record {
      place = 0;
      within = omega arith;
      phase = phase;
      keeps = refl;
      fewest = and_from (has_no_fewer ticks phase (Kept phase)) (list_all (has_no_fewer ticks phase) paces) (le-leb _ _ (le_refl _))
          (through phase has.phase not paces has.fewest);
    }
  ]

  pub fewest_or_none : (paces : List Pace) → HasFewest ticks paces ⊎ NoneKeeps paces
  fewest_or_none [] = inr (λ place within. absurd (omega (arith, within)))
  fewest_or_none (Kept phase ∷ paces) = elim (fewest_or_none paces) [
    | inl has ↦ inl (fewest_with phase paces has)
    | inr none ↦ inl (record {
      place = 0;
      within = omega arith;
      phase = phase;
      keeps = refl;
      fewest = and_from (has_no_fewer ticks phase (Kept phase)) (list_all (has_no_fewer ticks phase) paces) (le-leb _ _ (le_refl _))
          (no_fewer_than_none phase paces none);
    })
  ]
  fewest_or_none (Free greatest ∷ paces) = elim (fewest_or_none paces) [
    | inl has ↦ inl (record {
      place = suc has.place;
      within = omega (arith, has.within);
      phase = has.phase;
      keeps = has.keeps;
      fewest = has.fewest;
    })
    | inr none ↦ inr (one_more paces none)
  ]
    where
      one_more : (paces : List Pace) → NoneKeeps paces → NoneKeeps (Free greatest ∷ paces)
      one_more paces none zero within = (greatest, refl)
      one_more paces none (suc place) within = none place (omega (arith, within))
