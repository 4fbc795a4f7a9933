-- The hyperperiod of groups comes round for each of them, and walks start from one that keeps its phase, where one does.
use Rattle.std.proofs.Common.{◌≡◌, ℕ, ◌<◌, ◌≤◌, ◌⊎◌, inl, inr, Bool, true, true≢false, List, All, length, map, sym, ap, ◌∙◌, subst, arith, refl}
use Rattle.std.specs.List.{list_all}
use Rattle.std.proofs.lemmas.List.{get_or-map, length-map}
use Rattle.std.proofs.lemmas.List.Elements.{All-from_get_or}
use Rattle.std.proofs.lemmas.List.Folds.{list_all-map}
use Rattle.std.proofs.lemmas.List.Sums.{AllPass-from_list_all}
use Rattle.cl_stim.specs.declared.phase.Phase.{Phase}
use Rattle.cl_stim.proofs.Ranges.{IsFirstInRange, first_in_range, first_or_default}
use Rattle.cl_phase.specs.{declared.{pace.Pace.{Pace, TheVariants.{Kept, Free}}, stop.Stop.Stop}, Pace.{IsPace, PaceComesRound}, Walks.{no_stop, pace_at}, TightBounds.{hyperperiod_in, is_slowest, has_no_fewer, slowest}}
use Rattle.cl_phase.proofs.KeptFacts.{nth_pace, hyperperiod_rounds, hyperperiod_some, HasFewest, fewest_or_none, kept_or_free}

-- each place has a pace that goes on
abbrev pub ArePaced : List Stop → Type 0
ArePaced stops = (place : ℕ) → place < length stops → IsPace (pace_at stops place)

-- the group from which walks start keeps its phase, and no other that does has fewer arrivals
pub record SlowestKeeps (stops : List Stop) : Type 0 where
  pub phase : Phase
  pub keeps : pace_at stops (slowest stops) ≡ Kept phase
  pub fewest : (place : ℕ) → place < length stops → has_no_fewer (hyperperiod_in stops) phase (pace_at stops place) ≡ true

-- none keeps its phase, and walks start from the first
pub record NoneIsKept (stops : List Stop) : Type 0 where
  pub first : slowest stops ≡ 0
  pub none : (place : ℕ) → place < length stops → (greatest : ℕ) × (pace_at stops place ≡ Free greatest)

module _ (stops : List Stop) where
  paces : List Pace
  paces = map (λ (stop : Stop). stop.pace) stops

  length_paces : length paces ≡ length stops
  unfolding paces
  length_paces = length-map stops (λ (stop : Stop). stop.pace)

  nth_of : (place : ℕ) → place < length stops → nth_pace paces place ≡ pace_at stops place
  unfolding paces
  nth_of place within = get_or-map (λ (stop : Stop). stop.pace) stops place no_stop (Free 0) within

  -- ---- the hyperperiod

  module _ (paced : ArePaced stops) where
    all_paced : All IsPace paces
    all_paced = All-from_get_or IsPace paces (Free 0)
        (λ place within. subst IsPace (sym (nth_of place (omega (arith, within, length_paces)))) (paced place (omega (arith, within, length_paces))))

    pub hyperperiod_comes_round : (place : ℕ) → place < length stops → PaceComesRound (hyperperiod_in stops) (pace_at stops place)
    unfolding paces
    hyperperiod_comes_round place within = subst (PaceComesRound (hyperperiod_in stops)) (nth_of place within)
        (hyperperiod_rounds paces all_paced place (omega (arith, within, length_paces)))

    pub hyperperiod_is_some : 1 ≤ hyperperiod_in stops
    unfolding paces
    hyperperiod_is_some = hyperperiod_some paces all_paced

  -- ---- where walks start

  abbrev serves : ℕ → Bool
  serves place = is_slowest stops (hyperperiod_in stops) (pace_at stops place)

  first_serves : IsFirstInRange serves 0 (length stops) (slowest stops) ⊎ (slowest stops ≡ 0)
  unfolding slowest
  first_serves = first_or_default serves 0 (length stops) 0

  -- it is a place
  pub slowest_within : 0 < length stops → slowest stops < length stops
  slowest_within some = elim first_serves [
    | inl first ↦ omega (arith, first.not_after)
    | inr is ↦ omega (arith, is, some)
  ]

  kept_of : (pace : Pace) → is_slowest stops (hyperperiod_in stops) pace ≡ true
      → (phase : Phase) × (pace ≡ Kept phase) × (list_all (λ (stop : Stop). has_no_fewer (hyperperiod_in stops) phase stop.pace) stops ≡ true)
  kept_of (Kept phase) is = (phase, refl, is)
  kept_of (Free greatest) is = absurd (true≢false (sym is))

  keeps_first : IsFirstInRange serves 0 (length stops) (slowest stops) → SlowestKeeps stops
  keeps_first first =
      let (phase, keeps, fewest) = kept_of (pace_at stops (slowest stops)) first.passes in
      record {
        phase = phase;
        keeps = keeps;
        fewest = λ place within. AllPass-from_list_all (λ (stop : Stop). has_no_fewer (hyperperiod_in stops) phase stop.pace) stops fewest place no_stop within;
      }

  serves_with : HasFewest (hyperperiod_in stops) paces → IsFirstInRange serves 0 (length stops) (slowest stops)
  unfolding slowest paces
  serves_with has =
      let within : has.place < length stops = omega (arith, has.within, length_paces) in
      first_in_range serves 0 (length stops) 0 has.place (omega arith) (omega (arith, within))
      (ap (is_slowest stops (hyperperiod_in stops)) (sym (nth_of has.place within) ∙ has.keeps)
      ∙ sym (list_all-map (has_no_fewer (hyperperiod_in stops) has.phase) (λ (stop : Stop). stop.pace) stops) ∙ has.fewest)

  pub slowest_keeps : SlowestKeeps stops ⊎ NoneIsKept stops
  slowest_keeps = elim (fewest_or_none (hyperperiod_in stops) paces) [
    | inl has ↦ inl (keeps_first (serves_with has))
    | inr none ↦ elim first_serves [
      | inl first ↦ inl (keeps_first first)
      | inr is ↦ inr (record {
        first = is;
        none = λ place within.
            let (greatest, free) = none place (omega (arith, within, length_paces)) in
            (greatest, sym (nth_of place within) ∙ free);
      })
    ]
  ]

  -- where some group keeps its phase, the one from which walks start does
  pub slowest_is_kept : (place : ℕ) (phase : Phase) → place < length stops → pace_at stops place ≡ Kept phase → SlowestKeeps stops
  slowest_is_kept place phase within keeps = elim slowest_keeps [
    | inl is ↦ is
    | inr none ↦ absurd (kept_or_free phase (none.none place within).0 (sym keeps ∙ (none.none place within).1))
  ]
