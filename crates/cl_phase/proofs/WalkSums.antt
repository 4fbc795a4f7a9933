-- Walks go no further than sums over the groups on their way: of the greatest distance of each, less one tick, and of
-- the lags between them.
use Rattle.std.proofs.Common.{◌≡◌, ℕ, ℤ, pos, zero, suc, ◌+◌, ◌-◌, ◌<◌, ◌≤◌, inl, inr, List, length, refl, sym, ap, ◌∙◌, subst, arith}
use Rattle.std.specs.Prelude.{◌+ℤ◌, ◌-ℤ◌, ◌≤ℤ◌}
use Rattle.std.proofs.lemmas.Bool.{cases_lt}
use Rattle.std.proofs.lemmas.Int.{ints, by_lt_z}
use Rattle.cl_phase.specs.{declared.{pace.Pace.Pace, stop.Stop.Stop}, Pace.{first_from, previous, greatest_step}, Walks.{pace_at, lag_at, onward, back, last_place, arrival_at_last, arrival_at_first}, TightBounds.{length_from, reduced_from}}
use Rattle.cl_phase.proofs.Stepped.{IsStepped}

-- the greatest distance of the group of a place
abbrev pub step_at : List Stop → (place : ℕ) → ℤ
step_at stops place = pos (greatest_step (pace_at stops place))

-- the sum of the hops over the distances of their readers, to the group of a place, and over those of their writers
abbrev pub ahead : List Stop → (place : ℕ) → ℤ
ahead stops zero = pos 0
ahead stops (suc place) = ahead stops place +ℤ ((step_at stops (suc place) -ℤ pos 1) +ℤ lag_at stops place)

abbrev pub behind : List Stop → (place : ℕ) → ℤ
behind stops zero = pos 0
behind stops (suc place) = behind stops place +ℤ ((step_at stops place -ℤ pos 1) +ℤ lag_at stops place)

-- they differ by the distances of the two ends
pub ends_differ : (stops : List Stop) (place : ℕ) → (ahead stops place +ℤ step_at stops 0) ≡ (behind stops place +ℤ step_at stops place)
ends_differ stops zero = refl
ends_differ stops (suc place) = omega (arith, ints, ends_differ stops place)

-- ---- steps

-- an arrival is at most a greatest distance after the one before it
previous_near : (pace : Pace) → IsStepped pace → (arrival : ℤ) → arrival ≤ℤ (previous pace arrival +ℤ pos (greatest_step pace))
previous_near pace stepped arrival = omega (arith, ints, stepped.last_near (arrival -ℤ pos 1))

-- the arrival before the first one from a moment on comes before that moment
previous_of_first : (pace : Pace) → IsStepped pace → (moment : ℤ) → (previous pace (first_from pace moment) +ℤ pos 1) ≤ℤ moment
previous_of_first pace stepped moment = by_lt_z (previous pace (first_from pace moment)) moment
    (λ below. omega (arith, ints, below))
    (λ above. absurd (omega (arith, ints, stepped.back_onward moment (first_from pace moment -ℤ pos 1) above)))

module _ (stops : List Stop) (stepped : (place : ℕ) → place < length stops → IsStepped (pace_at stops place)) (place : ℕ) where
  -- ---- walks
  onward_near : (arrival : ℤ) (hops : ℕ) → place + hops < length stops
      → (onward stops place arrival hops +ℤ ahead stops place) ≤ℤ (arrival +ℤ ahead stops (place + hops))
  unfolding onward
  onward_near arrival zero h =
      let here : place + 0 ≡ place = omega arith in
      omega (arith, ints, ap (ahead stops) here)
  onward_near arrival (suc hops) h =
      let next : place + suc hops ≡ suc (place + hops) = omega arith in
      omega (
        arith,
        ints,
        ap (ahead stops) next,
        ap (step_at stops) next,
        onward_near arrival hops (omega (arith, h)),
        (stepped (place + suc hops) h).first_near (onward stops place arrival hops +ℤ lag_at stops (place + hops)),
      )

  -- to the arrival before the one to which a walk leads
  onward_before : (arrival : ℤ) (hops : ℕ) → place + suc hops < length stops
      → ((previous (pace_at stops (place + suc hops)) (onward stops place arrival (suc hops)) +ℤ ahead stops place) +ℤ step_at stops (place + suc hops))
      ≤ℤ (arrival +ℤ ahead stops (place + suc hops))
  unfolding onward
  onward_before arrival hops h =
      let next : place + suc hops ≡ suc (place + hops) = omega arith in
      omega (
        arith,
        ints,
        ap (ahead stops) next,
        ap (step_at stops) next,
        onward_near arrival hops (omega (arith, h)),
        previous_of_first (pace_at stops (place + suc hops)) (stepped (place + suc hops) h) (onward stops place arrival hops +ℤ lag_at stops (place + hops)),
      )

  back_near : (arrival : ℤ) (hops : ℕ) → place < length stops → hops ≤ place
      → (arrival +ℤ behind stops (place - hops)) ≤ℤ (back stops place arrival hops +ℤ behind stops place)
  unfolding back
  back_near arrival zero h few =
      let here : place - 0 ≡ place = omega arith in
      omega (arith, ints, ap (behind stops) here)
  back_near arrival (suc hops) h few =
      let next : place - hops ≡ suc (place - suc hops) = omega (arith, few) in
      let there : place - suc hops < length stops = omega (arith, h) in
      omega (
        arith,
        ints,
        ap (behind stops) next,
        back_near arrival hops h (omega (arith, few)),
        (stepped (place - suc hops) there).last_near (back stops place arrival hops -ℤ lag_at stops (place - suc hops)),
      )

  module _ (is : place < length stops) (arrival : ℤ) where
    pub last_near : (arrival_at_last stops place arrival +ℤ ahead stops place) ≤ℤ (arrival +ℤ ahead stops (last_place stops))
    last_near =
        let there : place + (last_place stops - place) ≡ last_place stops = omega (arith, is) in
        omega (arith, ints, ap (ahead stops) there, onward_near arrival (last_place stops - place) (omega (arith, is)))

    first_near : arrival ≤ℤ ((arrival_at_first stops place arrival +ℤ behind stops place) +ℤ step_at stops place)
    first_near =
        let there : place - place ≡ 0 = omega arith in
        omega (
          arith,
          ints,
          ap (behind stops) there,
          previous_near (pace_at stops place) (stepped place is) arrival,
          back_near (previous (pace_at stops place) arrival) place is (omega arith),
        )

    -- ---- lengths
    pub length_near : (span : ℤ) → length_from stops span place arrival ≤ℤ ((ahead stops (last_place stops) +ℤ step_at stops 0) +ℤ span)
    length_near span = omega (arith, ints, last_near, first_near, ends_differ stops place)

    reduced_of_hop : place < last_place stops
        → ((previous (pace_at stops (last_place stops)) (arrival_at_last stops place arrival) +ℤ ahead stops place) +ℤ step_at stops (last_place stops))
        ≤ℤ (arrival +ℤ ahead stops (last_place stops))
    reduced_of_hop hop =
        let hops : last_place stops - place ≡ suc (last_place stops - suc place) = omega (arith, hop) in
        let there : place + suc (last_place stops - suc place) ≡ last_place stops = omega (arith, hop) in
        subst (λ n. ((previous (pace_at stops (last_place stops)) (onward stops place arrival n) +ℤ ahead stops place) +ℤ step_at stops (last_place stops))
        ≤ℤ (arrival +ℤ ahead stops (last_place stops))) (sym hops)
        (subst (λ n. ((previous (pace_at stops n) (onward stops place arrival (suc (last_place stops - suc place))) +ℤ ahead stops place) +ℤ step_at stops n)
        ≤ℤ (arrival +ℤ ahead stops n)) there
        (onward_before arrival (last_place stops - suc place) (omega (arith, hop, is))))

    reduced_of_none : place ≡ last_place stops
        → previous (pace_at stops (last_place stops)) (arrival_at_last stops place arrival) ≡ previous (pace_at stops place) arrival
    unfolding onward
    reduced_of_none same =
        let none : last_place stops - place ≡ 0 = omega (arith, same) in
        ap (λ n. previous (pace_at stops (last_place stops)) (onward stops place arrival n)) none
        ∙ ap (λ n. previous (pace_at stops n) arrival) (sym same)

    from_previous : (previous (pace_at stops place) arrival) ≤ℤ (arrival_at_first stops place arrival +ℤ behind stops place)
    from_previous =
        let there : place - place ≡ 0 = omega arith in
        omega (arith, ints, ap (behind stops) there, back_near (previous (pace_at stops place) arrival) place is (omega arith))

    pub reduced_near : (span : ℤ) → reduced_from stops span place arrival ≤ℤ (behind stops (last_place stops) +ℤ span)
    reduced_near span = elim (cases_lt place (last_place stops)) [
      | inl hop ↦ omega (arith, ints, reduced_of_hop hop, first_near, ends_differ stops place, ends_differ stops (last_place stops))
      | inr past ↦
          let same : place ≡ last_place stops = omega (arith, past, is) in
          omega (arith, ints, reduced_of_none same, from_previous, ap (behind stops) same)
    ]
