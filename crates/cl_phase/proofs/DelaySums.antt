-- Walks last from the arrival of the first group's job that takes for at most the sum of the steps ahead and the last write.
use Rattle.std.proofs.Common.{◌≡◌, ℕ, ℤ, pos, zero, suc, ◌-◌, ◌<◌, ◌≤◌, List, length, ap, arith}
use Rattle.std.specs.Prelude.{◌+ℤ◌, ◌-ℤ◌, ◌≤ℤ◌}
use Rattle.std.proofs.lemmas.Int.{ints}
use Rattle.cl_phase.specs.{declared.stop.Stop.Stop, Pace.{previous, next}, Walks.{pace_at, lag_at, back, last_place, arrival_at_first}, TightBounds.delay_from}
use Rattle.cl_phase.proofs.{Stepped.IsStepped, WalkSums.{step_at, ahead, last_near}, DelaySteps.{next_near, next_past}}

-- where the arrival after one lies at most so far on, and that after an earlier one so far on from the first of them
one_hop : (arrival after before following step lag sum more sums : ℤ) → after ≤ℤ (before +ℤ step) → ((before -ℤ lag) +ℤ pos 1) ≤ℤ following
    → more ≡ (sum +ℤ ((step -ℤ pos 1) +ℤ lag)) → (arrival +ℤ more) ≤ℤ (after +ℤ sums) → (arrival +ℤ sum) ≤ℤ (following +ℤ sums)
one_hop arrival after before following step lag sum more sums near past is so_far = omega (arith, ints, near, past, is, so_far)

module _ (stops : List Stop) (stepped : (place : ℕ) → place < length stops → IsStepped (pace_at stops place)) (place : ℕ) (is : place < length stops)
    (arrival : ℤ) where
  -- the arrival after the one to which the walk back has come after so many hops
  abbrev following : (hops : ℕ) → ℤ
  following hops = next (pace_at stops (place - hops)) (back stops place (previous (pace_at stops place) arrival) hops)

  -- is earlier than an arrival by at most the sum of the hops between
  following_near : (hops : ℕ) → hops ≤ place → (arrival +ℤ ahead stops (place - hops)) ≤ℤ (following hops +ℤ ahead stops place)
  unfolding back
  following_near zero few =
      let here : place - 0 ≡ place = omega arith in
      omega (
        arith,
        ints,
        ap (ahead stops) here,
        ap (λ n. next (pace_at stops n) (previous (pace_at stops place) arrival)) here,
        next_past (pace_at stops place) (stepped place is) (arrival -ℤ pos 1),
      )
  following_near (suc hops) few =
      let there : ℕ = place - suc hops in
      let before : ℤ = back stops place (previous (pace_at stops place) arrival) hops in
      let here : place - hops ≡ suc there = omega (arith, few) in
      let near : next (pace_at stops (place - hops)) before ≤ℤ (before +ℤ step_at stops (place - hops))
      = next_near (pace_at stops (place - hops)) (stepped (place - hops) (omega (arith, is))) before in
      let past = next_past (pace_at stops there) (stepped there (omega (arith, is))) (before -ℤ lag_at stops there) in
      one_hop arrival (following hops) before _ (step_at stops (suc there)) (lag_at stops there) (ahead stops there) (ahead stops (suc there))
      (ahead stops place)
      (omega (arith, ints, near, ap (step_at stops) here)) past (omega (arith, ints))
      (omega (arith, ints, following_near hops (omega (arith, few)), ap (ahead stops) here))

  next_of_first_near : arrival ≤ℤ (next (pace_at stops 0) (arrival_at_first stops place arrival) +ℤ ahead stops place)
  next_of_first_near =
      let there : place - place ≡ 0 = omega arith in
      omega (
        arith,
        ints,
        ap (ahead stops) there,
        ap (λ n. next (pace_at stops n) (arrival_at_first stops place arrival)) there,
        following_near place (omega arith),
      )

  pub delay_near : (write : ℕ) → delay_from stops write place arrival ≤ℤ (ahead stops (last_place stops) +ℤ pos write)
  delay_near write = omega (arith, ints, last_near stops stepped place is arrival, next_of_first_near)
