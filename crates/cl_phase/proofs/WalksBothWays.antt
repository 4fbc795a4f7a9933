-- Walks along stops whose paces step: they rise with the moment from which they start, one goes on where another ends,
-- and a walk onward ends at or before an arrival exactly where it starts at or before the end of the walk back.
use Rattle.std.proofs.Common.{◌≡◌, ℕ, zero, suc, ◌+◌, ◌-◌, ◌<◌, ◌↔◌, List, length, ap, ◌∙◌, arith}
use Rattle.std.specs.Prelude.{ℤ, ◌+ℤ◌, ◌-ℤ◌, ◌≤ℤ◌}
use Rattle.std.proofs.lemmas.Int.{ints}
use Rattle.cl_phase.specs.{declared.{pace.Pace.Pace, stop.Stop.Stop}, Pace.{first_from, last_by}, Walks.{pace_at, lag_at, onward, back}}
use Rattle.cl_phase.proofs.Stepped.{IsStepped}

module _ (pace : Pace) (stepped : IsStepped pace) where
  -- steps rise
  pub first_rises : (from to : ℤ) → from ≤ℤ to → first_from pace from ≤ℤ first_from pace to
  first_rises from to le =
      let there = stepped.onward_back to (first_from pace to) (omega (arith, ints)) in
      stepped.back_onward from (first_from pace to) (omega (arith, ints, le, there))

  pub last_rises : (from to : ℤ) → from ≤ℤ to → last_by pace from ≤ℤ last_by pace to
  last_rises from to le =
      let here = stepped.back_onward (last_by pace from) from (omega (arith, ints)) in
      stepped.onward_back (last_by pace from) to (omega (arith, ints, le, here))

module _ (stops : List Stop) where
  -- a walk goes on where another ends
  pub onward_on : (place : ℕ) (arrival : ℤ) (hops more : ℕ)
      → onward stops place arrival (hops + more) ≡ onward stops (place + hops) (onward stops place arrival hops) more
  unfolding onward
  onward_on place arrival hops zero = ap (onward stops place arrival) (omega arith)
  onward_on place arrival hops (suc more) =
      let one : hops + suc more ≡ suc (hops + more) = omega arith in
      let next : place + suc (hops + more) ≡ place + hops + suc more = omega arith in
      let here : place + (hops + more) ≡ place + hops + more = omega arith in
      ap (onward stops place arrival) one
      ∙ ap (λ n. first_from (pace_at stops n) (onward stops place arrival (hops + more) +ℤ lag_at stops (place + (hops + more)))) next
      ∙ ap (λ n. first_from (pace_at stops (place + hops + suc more)) (onward stops place arrival (hops + more) +ℤ lag_at stops n)) here
      ∙ ap (λ z. first_from (pace_at stops (place + hops + suc more)) (z +ℤ lag_at stops (place + hops + more))) (onward_on place arrival hops more)

  pub back_on : (place : ℕ) (arrival : ℤ) (hops more : ℕ)
      → back stops place arrival (hops + more) ≡ back stops (place - hops) (back stops place arrival hops) more
  unfolding back
  back_on place arrival hops zero = ap (back stops place arrival) (omega arith)
  back_on place arrival hops (suc more) =
      let one : hops + suc more ≡ suc (hops + more) = omega arith in
      let next : place - suc (hops + more) ≡ place - hops - suc more = omega arith in
      ap (back stops place arrival) one
      ∙ ap (λ n. last_by (pace_at stops n) (back stops place arrival (hops + more) -ℤ lag_at stops n)) next
      ∙ ap (λ z. last_by (pace_at stops (place - hops - suc more)) (z -ℤ lag_at stops (place - hops - suc more))) (back_on place arrival hops more)

  module _ (stepped : (place : ℕ) → place < length stops → IsStepped (pace_at stops place)) where
    -- walks rise
    pub onward_rises : (place : ℕ) (one other : ℤ) → one ≤ℤ other → (hops : ℕ) → place + hops < length stops
        → onward stops place one hops ≤ℤ onward stops place other hops
    unfolding onward
    onward_rises place one other le zero within = le
    onward_rises place one other le (suc hops) within =
        first_rises (pace_at stops (place + suc hops)) (stepped (place + suc hops) within) _ _
        (omega (arith, ints, onward_rises place one other le hops (omega (arith, within))))

    pub back_rises : (place : ℕ) (one other : ℤ) → one ≤ℤ other → place < length stops → (hops : ℕ)
        → back stops place one hops ≤ℤ back stops place other hops
    unfolding back
    back_rises place one other le within zero = le
    back_rises place one other le within (suc hops) =
        last_rises (pace_at stops (place - suc hops)) (stepped (place - suc hops) (omega (arith, within))) _ _
        (omega (arith, ints, back_rises place one other le within hops))

    -- one hop onward answers one hop back
    hop_both_ways : (place : ℕ) (arrival moment : ℤ) (hops : ℕ) → place + suc hops < length stops
        → (onward stops place arrival (suc hops) ≤ℤ moment)
        ↔ ((onward stops place arrival hops +ℤ lag_at stops (place + hops)) ≤ℤ last_by (pace_at stops (place + suc hops)) moment)
    unfolding onward
    hop_both_ways place arrival moment hops within =
        let step = stepped (place + suc hops) within in
        (step.onward_back _ moment, step.back_onward _ moment)

    -- a walk onward from `from` meets a walk back from an arrival of `to`: so far before it, and so far after the start
    meeting : (from to : ℕ) (start end : ℤ) → to < length stops → last_by (pace_at stops to) end ≡ end
        → (after before : ℕ) → to ≡ from + suc (before + after)
        → (onward stops from start (suc (before + after)) ≤ℤ end)
        ↔ ((onward stops from start before +ℤ lag_at stops (from + before)) ≤ℤ back stops to end after)
    unfolding back
    meeting from to start end within fixed zero before apart =
        let hop = hop_both_ways from start end before (omega (arith, within, apart)) in
        let whole : onward stops from start (suc (before + 0)) ≡ onward stops from start (suc before) = ap (onward stops from start) (omega arith) in
        let place : from + suc before ≡ to = omega (arith, apart) in
        let same = ap (λ n. last_by (pace_at stops n) end) place ∙ fixed in (
          λ le. omega (arith, ints, hop.0 (omega (arith, ints, le, whole)), same),
          λ le. omega (arith, ints, hop.1 (omega (arith, ints, le, same)), whole),
        )
    meeting from to start end within fixed (suc after) before apart =
        let later = meeting from to start end within fixed after (suc before) (omega (arith, apart)) in
        let hop = hop_both_ways from start (back stops to end after -ℤ lag_at stops (from + suc before)) before (omega (arith, within, apart)) in
        let whole : onward stops from start (suc (before + suc after)) ≡ onward stops from start (suc (suc before + after)) =
        ap (onward stops from start) (omega arith) in
        let place : to - suc after ≡ from + suc before = omega (arith, apart) in
        let same : back stops to end (suc after) ≡ last_by (pace_at stops (from + suc before)) (back stops to end after -ℤ lag_at stops (from + suc before))
        = ap (λ n. last_by (pace_at stops n) (back stops to end after -ℤ lag_at stops n)) place in (
          λ le. omega (arith, ints, hop.0 (omega (arith, ints, later.0 (omega (arith, ints, le, whole)))), same),
          λ le. omega (arith, ints, later.1 (omega (arith, ints, hop.1 (omega (arith, ints, le, same)))), whole),
        )

    -- so a whole walk onward ends at or before an arrival where it starts, past its lag, at or before the walk back
    pub walks_both_ways : (from : ℕ) (start end : ℤ) (hops : ℕ) → from + suc hops < length stops → last_by (pace_at stops (from + suc hops)) end ≡ end
        → (onward stops from start (suc hops) ≤ℤ end) ↔ ((start +ℤ lag_at stops from) ≤ℤ back stops (from + suc hops) end hops)
    unfolding onward
    walks_both_ways from start end hops within fixed =
        let met = meeting from (from + suc hops) start end within fixed hops 0 (omega arith) in
        let all : suc (0 + hops) ≡ suc hops = omega arith in
        let whole = ap (onward stops from start) all in
        let place : lag_at stops (from + 0) ≡ lag_at stops from = ap (lag_at stops) (omega arith) in (
          λ le. omega (arith, ints, met.0 (omega (arith, ints, le, whole)), place),
          λ le. omega (arith, ints, met.1 (omega (arith, ints, le, place)), whole),
        )
