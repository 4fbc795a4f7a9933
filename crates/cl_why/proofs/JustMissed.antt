-- At each hop of a whole walk the job of the reader that just misses arrives before what the writer's job that takes hands
-- over could be read. Times are in ticks.
use Rattle.std.proofs.Common.{◌≡◌, ℕ, suc, ◌+◌, ◌-◌, ◌<◌, ◌≤◌, ℤ, pos, ◌+ℤ◌, ◌-ℤ◌, ◌≤ℤ◌, inl, inr, List, length, ap, ◌∙◌, arith}
use Rattle.std.proofs.lemmas.Bool.{cases_lt}
use Rattle.std.proofs.lemmas.Int.{ints, by_lt_z}
use Rattle.cl_phase.specs.{declared.{pace.Pace.Pace, stop.Stop.Stop}, Pace.{first_from, last_by, previous, next}, Walks.{pace_at, lag_at, onward, back}, Whole.{missed_at, taken_at}}
use Rattle.cl_phase.proofs.{Stepped.IsStepped, DelaySteps.next_past, WholeWalks.{missed_back, missed_behind, taken_onward, taken_before}}

-- the arrival before the first one from a moment on comes before that moment
previous_earlier : (pace : Pace) → IsStepped pace → (moment : ℤ) → (previous pace (first_from pace moment) +ℤ pos 1) ≤ℤ moment
previous_earlier pace stepped moment = by_lt_z (previous pace (first_from pace moment)) moment
    (λ before. omega (arith, ints, before))
    (λ by. absurd (omega (arith, ints, stepped.back_onward moment (first_from pace moment -ℤ pos 1) by)))

module _ (stops : List Stop) (stepped : (place : ℕ) → place < length stops → IsStepped (pace_at stops place)) (from : ℕ) (start : ℤ)
    (place : ℕ) (within : place + 1 < length stops) where
  abbrev before : ℤ
  before = previous (pace_at stops from) start

  -- ---- before the group where the walk starts

  back_step : place < from → back stops from before (from - place)
      ≡ last_by (pace_at stops place) (back stops from before (from - (place + 1)) -ℤ lag_at stops place)
  unfolding back
  back_step less =
      let hops : from - place ≡ suc (from - (place + 1)) = omega (arith, less) in
      let there : from - suc (from - (place + 1)) ≡ place = omega (arith, less) in
      ap (back stops from before) hops
      ∙ ap (λ p. last_by (pace_at stops p) (back stops from before (from - (place + 1)) -ℤ lag_at stops p)) there

  misses_before : place < from → (missed_at stops from start (place + 1) +ℤ pos 1) ≤ℤ (taken_at stops from start place +ℤ lag_at stops place)
  misses_before less =
      let missed = back stops from before (from - (place + 1)) in
      let missed_is : missed_at stops from start (place + 1) ≡ missed = missed_back stops from start (place + 1) (omega (arith, less)) in
      let taken_is : taken_at stops from start place ≡ next (pace_at stops place) (last_by (pace_at stops place) (missed -ℤ lag_at stops place))
      = taken_before stops from start place less ∙ ap (next (pace_at stops place)) (back_step less) in
      omega (arith, ints, missed_is, taken_is, next_past (pace_at stops place) (stepped place (omega (arith, within))) (missed -ℤ lag_at stops place))

  -- ---- from there on

  onward_step : from ≤ place → onward stops from start (place + 1 - from)
      ≡ first_from (pace_at stops (place + 1)) (onward stops from start (place - from) +ℤ lag_at stops place)
  unfolding onward
  onward_step not =
      let hops : place + 1 - from ≡ suc (place - from) = omega (arith, not) in
      let there : from + suc (place - from) ≡ place + 1 = omega (arith, not) in
      let here : from + (place - from) ≡ place = omega (arith, not) in
      ap (onward stops from start) hops
      ∙ ap (λ p. first_from (pace_at stops p) (onward stops from start (place - from) +ℤ lag_at stops (from + (place - from)))) there
      ∙ ap (λ p. first_from (pace_at stops (place + 1)) (onward stops from start (place - from) +ℤ lag_at stops p)) here

  misses_behind : from ≤ place → (missed_at stops from start (place + 1) +ℤ pos 1) ≤ℤ (taken_at stops from start place +ℤ lag_at stops place)
  misses_behind not =
      let taken = onward stops from start (place - from) in
      let taken_is : taken_at stops from start place ≡ taken = taken_onward stops from start place not in
      let missed_is : missed_at stops from start (place + 1)
      ≡ previous (pace_at stops (place + 1)) (first_from (pace_at stops (place + 1)) (taken +ℤ lag_at stops place))
      = missed_behind stops from start (place + 1) (omega (arith, not)) ∙ ap (previous (pace_at stops (place + 1))) (onward_step not) in
      omega (arith, ints, missed_is, taken_is, previous_earlier (pace_at stops (place + 1)) (stepped (place + 1) within) (taken +ℤ lag_at stops place))

  pub just_misses : (missed_at stops from start (place + 1) +ℤ pos 1) ≤ℤ (taken_at stops from start place +ℤ lag_at stops place)
  just_misses = elim (cases_lt place from) [
    | inl less ↦ misses_before less
    | inr not ↦ misses_behind not
  ]
