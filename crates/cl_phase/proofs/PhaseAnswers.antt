-- Walks from an arrival of a group that keeps its phase are answered by those from an arrival of another: they last as
-- long or longer.
use Rattle.std.proofs.Common.{◌≡◌, ◌⊎◌, ℕ, suc, ◌+◌, ◌-◌, ◌<◌, List, length, refl, sym, ap, subst, ◌∙◌, arith, inl, inr}
use Rattle.std.specs.Prelude.{ℤ, pos, negsuc, ◌+ℤ◌, ◌-ℤ◌, ◌≤ℤ◌}
use Rattle.std.proofs.lemmas.Bool.{cases_lt}
use Rattle.std.proofs.lemmas.Int.{ints}
use Rattle.cl_phase.specs.{declared.{pace.Pace.Pace, stop.Stop.Stop}, Pace.{first_from, last_by, previous}, Walks.{pace_at, lag_at, onward, back, last_place, arrival_at_last, arrival_at_first}, TightBounds.{length_from, reduced_from}}
use Rattle.cl_phase.proofs.{Stepped.IsStepped, WalksBothWays.{last_rises, onward_on, back_on, onward_rises, back_rises, walks_both_ways}}

-- the steps of a pace lead to arrivals that are fixed: from a moment to the first that isn't before it, and to the last
-- that isn't after it
pub record LeadsTo (Arrives : ℤ → Type 0) (pace : Pace) : Type 0 where
  pub first_arrives : (moment : ℤ) → Arrives (first_from pace moment)
  pub first_after : (moment : ℤ) → moment ≤ℤ first_from pace moment
  pub first_least : (moment arrival : ℤ) → Arrives arrival → moment ≤ℤ arrival → first_from pace moment ≤ℤ arrival
  pub last_arrives : (moment : ℤ) → Arrives (last_by pace moment)
  pub last_before : (moment : ℤ) → last_by pace moment ≤ℤ moment
  pub last_greatest : (moment arrival : ℤ) → Arrives arrival → arrival ≤ℤ moment → arrival ≤ℤ last_by pace moment

-- one moment is at or before another, or after it
pub before_or_after : (one other : ℤ) → (one ≤ℤ other) ⊎ ((other +ℤ pos 1) ≤ℤ one)
before_or_after (pos one) (pos other) = elim (cases_lt other one) [
  | inl less ↦ inr (omega (arith, ints, less))
  | inr le ↦ inl (omega (arith, ints, le))
]
before_or_after (pos one) (negsuc other) = inr (omega (arith, ints))
before_or_after (negsuc one) (pos other) = inl (omega (arith, ints))
before_or_after (negsuc one) (negsuc other) = elim (cases_lt one other) [
  | inl less ↦ inr (omega (arith, ints, less))
  | inr le ↦ inl (omega (arith, ints, le))
]

-- an arrival is the last one by itself
pub last_fixed : (Arrives : ℤ → Type 0) (pace : Pace) → LeadsTo Arrives pace → (arrival : ℤ) → Arrives arrival → last_by pace arrival ≡ arrival
last_fixed Arrives pace leads arrival arrives =
    omega (arith, ints, leads.last_before arrival, leads.last_greatest arrival arrival arrives (omega (arith, ints)))

module _ (stops : List Stop) (stepped : (place : ℕ) → place < length stops → IsStepped (pace_at stops place)) where
  -- from an arrival of a group to that of a later one
  module _ (from hops : ℕ) (Starts Ends : ℤ → Type 0) (within : from + suc hops < length stops) (starts : LeadsTo Starts (pace_at stops from))
      (ends : LeadsTo Ends (pace_at stops (from + suc hops))) where
    abbrev to : ℕ
    to = from + suc hops

    pub ahead : ℤ → ℤ
    ahead arrival = onward stops from arrival (suc hops)

    behind : ℤ → ℤ
    behind arrival = back stops to arrival (suc hops)

    pub ahead_arrives : (arrival : ℤ) → Ends (ahead arrival)
    unfolding ahead onward
    ahead_arrives arrival = ends.first_arrives (onward stops from arrival hops +ℤ lag_at stops (from + hops))

    -- the walk back ends with a step to the last arrival by this moment
    before_step : ℤ → ℤ
    before_step arrival = back stops to arrival hops -ℤ lag_at stops from

    behind_is : (arrival : ℤ) → behind arrival ≡ last_by (pace_at stops from) (before_step arrival)
    unfolding behind before_step back
    behind_is arrival = ap (λ n. last_by (pace_at stops n) (back stops to arrival hops -ℤ lag_at stops n)) (omega arith)

    behind_arrives : (arrival : ℤ) → Starts (behind arrival)
    behind_arrives arrival = subst Starts (sym (behind_is arrival)) (starts.last_arrives (before_step arrival))

    -- the walk onward ends at or before an arrival where it starts at or before the walk back
    ends_before : (start end : ℤ) → Ends end → start ≤ℤ behind end → ahead start ≤ℤ end
    unfolding ahead before_step
    ends_before start end arrives le =
        let fixed = last_fixed Ends (pace_at stops to) ends end arrives in
        let before = starts.last_before (before_step end) in
        (walks_both_ways stops stepped from start end hops within fixed).1 (omega (arith, ints, le, behind_is end, before))

    starts_before : (start end : ℤ) → Starts start → Ends end → ahead start ≤ℤ end → start ≤ℤ behind end
    unfolding ahead before_step
    starts_before start end starts_there arrives le =
        let fixed = last_fixed Ends (pace_at stops to) ends end arrives in
        let there = (walks_both_ways stops stepped from start end hops within fixed).0 le in
        omega (arith, ints, behind_is end, starts.last_greatest (before_step end) start starts_there (omega (arith, ints, there)))

    -- ---- whole walks through both

    pub last_is : (arrival : ℤ) → arrival_at_last stops from arrival ≡ arrival_at_last stops to (ahead arrival)
    unfolding ahead
    last_is arrival =
        let apart : last_place stops - from ≡ suc hops + (last_place stops - to) = omega (arith, within) in
        ap (onward stops from arrival) apart ∙ onward_on stops from arrival (suc hops) (last_place stops - to)

    first_is : (arrival : ℤ) → arrival_at_first stops to arrival ≡ back stops from (behind (previous (pace_at stops to) arrival)) from
    unfolding behind
    first_is arrival =
        let apart : to ≡ suc hops + from = omega arith in
        let there : to - suc hops ≡ from = omega arith in
        ap (back stops to (previous (pace_at stops to) arrival)) apart
        ∙ back_on stops to (previous (pace_at stops to) arrival) (suc hops) from
        ∙ ap (λ n. back stops n (back stops to (previous (pace_at stops to) arrival) (suc hops)) from) there

    last_rises_with : (one other : ℤ) → one ≤ℤ other → arrival_at_last stops to one ≤ℤ arrival_at_last stops to other
    last_rises_with one other le = onward_rises stops stepped to one other le (last_place stops - to) (omega (arith, within))

    first_rises_with : (one other : ℤ) → one ≤ℤ other → back stops from one from ≤ℤ back stops from other from
    first_rises_with one other le = back_rises stops stepped from one other le (omega (arith, within)) from

    -- where the walk from an arrival leads, walks last as long or longer: they reach the same last arrival, and go back to
    -- one that is no later
    pub back_no_later : (arrival : ℤ) → Starts arrival → arrival_at_first stops to (ahead arrival) ≤ℤ arrival_at_first stops from arrival
    back_no_later arrival arrives =
        let there : ℤ = ahead arrival in
        let before : ℤ = previous (pace_at stops to) there in
        let lies = ends.last_before (there -ℤ pos 1) in
        let earlier : (behind before +ℤ pos 1) ≤ℤ arrival = elim (before_or_after arrival (behind before)) [
          | inl le ↦ absurd (omega (arith, ints, ends_before arrival before (ends.last_arrives (there -ℤ pos 1)) le, lies))
          | inr after ↦ after
        ] in
        let le = starts.last_greatest (arrival -ℤ pos 1) (behind before) (behind_arrives before) (omega (arith, ints, earlier)) in
        omega (arith, ints, first_is there, first_rises_with (behind before) (previous (pace_at stops from) arrival) le)

    -- and from the arrival after the walk back from the one before, walks last as long as from an arrival or longer
    pub answer : (arrival : ℤ) → ℤ
    answer arrival = first_from (pace_at stops from) (behind (previous (pace_at stops to) arrival) +ℤ pos 1)

    answer_is : (arrival : ℤ) → answer arrival ≡ first_from (pace_at stops from) (behind (previous (pace_at stops to) arrival) +ℤ pos 1)
    unfolding answer
    answer_is arrival = refl

    pub answer_arrives : (arrival : ℤ) → Starts (answer arrival)
    unfolding answer
    answer_arrives arrival = starts.first_arrives (behind (previous (pace_at stops to) arrival) +ℤ pos 1)

    answer_after : (arrival : ℤ) → (behind (previous (pace_at stops to) arrival) +ℤ pos 1) ≤ℤ answer arrival
    unfolding answer
    answer_after arrival = starts.first_after (behind (previous (pace_at stops to) arrival) +ℤ pos 1)

    pub last_no_earlier : (arrival : ℤ) → arrival_at_last stops to arrival ≤ℤ arrival_at_last stops from (answer arrival)
    last_no_earlier arrival =
        let before : ℤ = previous (pace_at stops to) arrival in
        let start : ℤ = answer arrival in
        let le : arrival ≤ℤ ahead start = elim (before_or_after arrival (ahead start)) [
          | inl le ↦ le
          | inr after ↦
              let by = ends.last_greatest (arrival -ℤ pos 1) (ahead start) (ahead_arrives start) (omega (arith, ints, after)) in
              let back_there = starts_before start before (answer_arrives arrival) (ends.last_arrives (arrival -ℤ pos 1)) by in
              absurd (omega (arith, ints, back_there, answer_after arrival))
        ] in
        omega (arith, ints, last_is start, last_rises_with arrival (ahead start) le)

    pub first_no_later : (arrival : ℤ) → arrival_at_first stops from (answer arrival) ≤ℤ arrival_at_first stops to arrival
    first_no_later arrival =
        let before : ℤ = previous (pace_at stops to) arrival in
        let start : ℤ = answer arrival in
        let le : previous (pace_at stops from) start ≤ℤ behind before = elim (before_or_after (previous (pace_at stops from) start) (behind before)) [
          | inl le ↦ le
          | inr after ↦
              let least = starts.first_least (behind before +ℤ pos 1) (previous (pace_at stops from) start) (starts.last_arrives (start -ℤ pos 1)) after in
              absurd (omega (arith, ints, answer_is arrival, least, starts.last_before (start -ℤ pos 1)))
        ] in
        omega (arith, ints, first_is arrival, first_rises_with (previous (pace_at stops from) start) (behind before) le)

    module _ (span : ℤ) where
      -- the job before the last arrival
      previous_rises : (one other : ℤ) → one ≤ℤ other → previous (pace_at stops (last_place stops)) one ≤ℤ previous (pace_at stops (last_place stops)) other
      previous_rises one other le =
          last_rises (pace_at stops (last_place stops)) (stepped (last_place stops) (omega (arith, within))) _ _ (omega (arith, ints, le))

      pub ahead_longer : (arrival : ℤ) → Starts arrival → length_from stops span from arrival ≤ℤ length_from stops span to (ahead arrival)
      ahead_longer arrival arrives = omega (arith, ints, last_is arrival, back_no_later arrival arrives)

      pub ahead_longer_reduced : (arrival : ℤ) → Starts arrival → reduced_from stops span from arrival ≤ℤ reduced_from stops span to (ahead arrival)
      ahead_longer_reduced arrival arrives =
          let rise = previous_rises (arrival_at_last stops from arrival) (arrival_at_last stops to (ahead arrival)) (omega (arith, ints, last_is arrival)) in
          omega (arith, ints, rise, back_no_later arrival arrives)

      pub answer_longer : (arrival : ℤ) → length_from stops span to arrival ≤ℤ length_from stops span from (answer arrival)
      answer_longer arrival = omega (arith, ints, last_no_earlier arrival, first_no_later arrival)

      pub answer_longer_reduced : (arrival : ℤ) → reduced_from stops span to arrival ≤ℤ reduced_from stops span from (answer arrival)
      answer_longer_reduced arrival =
          let rise = previous_rises (arrival_at_last stops to arrival) (arrival_at_last stops from (answer arrival)) (last_no_earlier arrival) in
          omega (arith, ints, rise, first_no_later arrival)
