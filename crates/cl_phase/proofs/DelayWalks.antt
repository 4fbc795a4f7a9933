-- The bound on the delay by the walks from a group is at least how long the walks from each of its arrivals last, wherever it lies, from
-- the arrival of the first group's job that takes.
use Rattle.std.proofs.Common.{◌≡◌, ℕ, ℤ, pos, ◌<◌, inl, inr, List, length, sym, arith}
use Rattle.std.specs.Prelude.{◌+ℤ◌, ◌-ℤ◌, ◌≤ℤ◌}
use Rattle.std.proofs.lemmas.Int.{ints}
use Rattle.cl_phase.specs.{declared.stop.Stop.Stop, Pace.PaceComesRound, Walks.{pace_at, arrival_at_first}, TightBounds.{ticks_or_none, delay_from, bounds_from}}
use Rattle.cl_phase.proofs.{Stepped.IsStepped, WalksMove.{last_moves, first_moves}, WalkStarts.{AreStops, IsArrivalAt, HasStart, start_of, from_start}, DelaySteps.next_moves}

same_delay : (last moved_last first moved_first more write : ℤ) → moved_last ≡ (last +ℤ more) → moved_first ≡ (first +ℤ more)
    → ((moved_last -ℤ moved_first) +ℤ write) ≡ ((last -ℤ first) +ℤ write)
same_delay last moved_last first moved_first more write one other = omega (arith, ints, one, other)

-- by ticks after which all paces come round, walks last as long
module _ (stops : List Stop) (stepped : (place : ℕ) → place < length stops → IsStepped (pace_at stops place))
    (ticks : ℕ) (round : (place : ℕ) → place < length stops → PaceComesRound ticks (pace_at stops place)) (place : ℕ) (is : place < length stops) where
  delay_moves : (write : ℕ) (moved arrival : ℤ) → moved ≡ (arrival +ℤ pos ticks)
      → delay_from stops write place moved ≡ delay_from stops write place arrival
  delay_moves write moved arrival at =
      let some : 0 < length stops = omega (arith, is) in
      same_delay _ _ _ _ (pos ticks) (pos write)
      (last_moves stops stepped ticks round place is (pos 0) moved arrival at)
      (next_moves (pace_at stops 0) (stepped 0 some) ticks (round 0 some) (arrival_at_first stops place moved) (arrival_at_first stops place arrival)
      (first_moves stops stepped ticks round place is (pos 0) moved arrival at))

-- no walks from an arrival last longer than the bound
module _ (stops : List Stop) (place : ℕ) (are : AreStops stops place) (span : ℤ) (write : ℕ) (arrival : ℤ)
    (arrives : IsArrivalAt (pace_at stops place) arrival) where
  start : HasStart stops place arrival
  start = start_of stops place are arrival arrives

  same_from_start : delay_from stops write place arrival ≡ delay_from stops write place (pos start.first)
  same_from_start = elim start.moved [
    | inl later ↦ delay_moves stops are.stepped start.ticks start.round place are.is_place write arrival (pos start.first) later
    | inr earlier ↦ sym (delay_moves stops are.stepped start.ticks start.round place are.is_place write (pos start.first) arrival earlier)
  ]

  pub delay_bounded : delay_from stops write place arrival ≤ℤ pos (bounds_from stops span write place).delay
  unfolding bounds_from
  delay_bounded = from_start (delay_from stops write place) arrival start.first _ same_from_start
      (start.taken (λ moment. ticks_or_none (delay_from stops write place (pos moment))))
