-- Walks move with the arrivals from which they start: by ticks after which all paces come round, they last as long.
use Rattle.std.proofs.Common.{◌≡◌, ℕ, ℤ, pos, zero, suc, ◌+◌, ◌-◌, ◌<◌, List, length, ap, ◌∙◌, arith}
use Rattle.std.specs.Prelude.{◌+ℤ◌, ◌-ℤ◌}
use Rattle.std.proofs.lemmas.Int.{ints}
use Rattle.cl_phase.specs.{declared.{pace.Pace.Pace, stop.Stop.Stop}, Pace.{first_from, last_by, previous, PaceComesRound}, Walks.{pace_at, lag_at, onward, back, last_place, arrival_at_last, arrival_at_first}, TightBounds.{length_from, reduced_from}}
use Rattle.cl_phase.proofs.Stepped.{IsStepped}

-- sums whose terms stand in another order
with_more : (moved moment more lag : ℤ) → moved ≡ (moment +ℤ more) → (moved +ℤ lag) ≡ ((moment +ℤ lag) +ℤ more)
with_more moved moment more lag is = omega (arith, ints, is)

with_less : (moved moment more lag : ℤ) → moved ≡ (moment +ℤ more) → (moved -ℤ lag) ≡ ((moment -ℤ lag) +ℤ more)
with_less moved moment more lag is = omega (arith, ints, is)

same_length : (last moved_last first moved_first more span : ℤ) → moved_last ≡ (last +ℤ more) → moved_first ≡ (first +ℤ more)
    → ((moved_last -ℤ moved_first) +ℤ span) ≡ ((last -ℤ first) +ℤ span)
same_length last moved_last first moved_first more span one other = omega (arith, ints, one, other)

pub previous_moves : (pace : Pace) → IsStepped pace → (ticks : ℕ) → PaceComesRound ticks pace → (moved arrival : ℤ) → moved ≡ (arrival +ℤ pos ticks)
    → previous pace moved ≡ (previous pace arrival +ℤ pos ticks)
previous_moves pace stepped ticks round moved arrival is =
    ap (last_by pace) (with_less moved arrival (pos ticks) (pos 1) is) ∙ stepped.last_moves ticks round (arrival -ℤ pos 1)

module _ (stops : List Stop) (stepped : (place : ℕ) → place < length stops → IsStepped (pace_at stops place))
    (ticks : ℕ) (round : (place : ℕ) → place < length stops → PaceComesRound ticks (pace_at stops place)) (place : ℕ) where
  onward_moves : (moved arrival : ℤ) → moved ≡ (arrival +ℤ pos ticks) → (hops : ℕ) → place + hops < length stops
      → onward stops place moved hops ≡ (onward stops place arrival hops +ℤ pos ticks)
  unfolding onward
  onward_moves moved arrival is zero h = is
  onward_moves moved arrival is (suc hops) h =
      ap (first_from (pace_at stops (place + suc hops)))
      (with_more _ _ (pos ticks) (lag_at stops (place + hops)) (onward_moves moved arrival is hops (omega (arith, h))))
      ∙ (stepped (place + suc hops) h).first_moves ticks (round (place + suc hops) h) (onward stops place arrival hops +ℤ lag_at stops (place + hops))

  back_moves : (moved arrival : ℤ) → moved ≡ (arrival +ℤ pos ticks) → place < length stops → (hops : ℕ)
      → back stops place moved hops ≡ (back stops place arrival hops +ℤ pos ticks)
  unfolding back
  back_moves moved arrival is h zero = is
  back_moves moved arrival is h (suc hops) =
      let there : place - suc hops < length stops = omega (arith, h) in
      ap (last_by (pace_at stops (place - suc hops)))
      (with_less _ _ (pos ticks) (lag_at stops (place - suc hops)) (back_moves moved arrival is h hops))
      ∙ (stepped (place - suc hops) there).last_moves ticks (round (place - suc hops) there)
      (back stops place arrival hops -ℤ lag_at stops (place - suc hops))

  module _ (h : place < length stops) (span moved arrival : ℤ) (is : moved ≡ (arrival +ℤ pos ticks)) where
    pub last_moves : arrival_at_last stops place moved ≡ (arrival_at_last stops place arrival +ℤ pos ticks)
    last_moves = onward_moves moved arrival is (last_place stops - place) (omega (arith, h))

    pub first_moves : arrival_at_first stops place moved ≡ (arrival_at_first stops place arrival +ℤ pos ticks)
    first_moves = back_moves (previous (pace_at stops place) moved) (previous (pace_at stops place) arrival)
        (previous_moves (pace_at stops place) (stepped place h) ticks (round place h) moved arrival is) h place

    pub length_moves : length_from stops span place moved ≡ length_from stops span place arrival
    length_moves = same_length _ _ _ _ (pos ticks) span last_moves first_moves

    pub reduced_moves : reduced_from stops span place moved ≡ reduced_from stops span place arrival
    reduced_moves =
        let last : last_place stops < length stops = omega (arith, h) in
        same_length _ _ _ _ (pos ticks) span
        (previous_moves (pace_at stops (last_place stops)) (stepped (last_place stops) last) ticks (round (last_place stops) last)
        (arrival_at_last stops place moved) (arrival_at_last stops place arrival) last_moves)
        first_moves
