-- Walks, one hop after the other, and how far they go. Times are in ticks.
use Rattle.std.proofs.Common.{◌≡◌, ℕ, suc, ◌+◌, ◌-◌, ◌*◌, ◌<◌, ◌≤◌, ℤ, pos, ◌+ℤ◌, ◌-ℤ◌, ◌≤ℤ◌, List, length, slice_index_or, ap, sym, ◌∙◌, subst, arith}
use Rattle.std.proofs.lemmas.Int.{ints}
use Rattle.std.proofs.lemmas.List.{get_or_default}
use Rattle.cl_phase.specs.{declared.{stop.Stop.Stop, pace.Pace.{Pace, TheVariants.{Kept, Free}}}, Pace.{IsPace, first_from, last_by}, Walks.{no_stop, pace_at, lag_at, onward, back}, Inner.Ranges.{FARTHEST_START, FARTHEST_WALKED, AreStopsInRange, IsPaceInRange}}
use Rattle.cl_model.specs.declared.limits.TheConstants.{MOST_TICKS}
use Rattle.cl_stim.specs.{Integers.IsIntegerWithin, Phase.IsMoment}

-- a hop goes less far than this: its lag is at most 10^12 ticks, and so is the distance to the next arrival
abbrev pub HOP : ℕ
HOP = 4000000000000

-- the walk onward to the group of a place, from that to the group before it
pub onward_more : (stops : List Stop) (place : ℕ) (arrival : ℤ) (here : ℕ) → place + 1 ≤ here
    → onward stops place arrival (here + 1 - (place + 1))
    ≡ first_from (pace_at stops here) (onward stops place arrival (here - (place + 1)) +ℤ lag_at stops (here - 1))
unfolding onward
onward_more stops place arrival here after =
    let hops = here - (place + 1) in
    let count : here + 1 - (place + 1) ≡ suc hops = omega arith in
    let to : place + suc hops ≡ here = omega arith in
    let from : place + hops ≡ here - 1 = omega arith in
    ap (onward stops place arrival) count ∙ ap (λ n. first_from (pace_at stops n) (onward stops place arrival hops +ℤ lag_at stops (place + hops))) to
    ∙ ap (λ n. first_from (pace_at stops here) (onward stops place arrival hops +ℤ lag_at stops n)) from

-- and the walk back
pub back_more : (stops : List Stop) (place : ℕ) (arrival : ℤ) (here : ℕ) → 1 ≤ here → here ≤ place
    → back stops place arrival (place - (here - 1))
    ≡ last_by (pace_at stops (here - 1)) (back stops place arrival (place - here) -ℤ lag_at stops (here - 1))
unfolding back
back_more stops place arrival here some within =
    let hops = place - here in
    let count : place - (here - 1) ≡ suc hops = omega arith in
    let to : place - suc hops ≡ here - 1 = omega arith in
    ap (back stops place arrival) count
    ∙ ap (λ n. last_by (pace_at stops n) (back stops place arrival hops -ℤ lag_at stops n)) to

-- what code reads past the last group
abbrev pub unset : Stop
unset = record { pace = Kept (record { period = 0; offset = 0; count = 0; distance = 0 }); lag = pos 0 }

-- a group that stands in the chain is read as it stands
module _ (stops : List Stop) (are : AreStopsInRange stops) (place : ℕ) (within : place < length stops) where
  pub pace_here : (slice_index_or stops place unset).pace ≡ pace_at stops place
  pace_here = ap (λ (stop : Stop). stop.pace) (get_or_default stops place unset no_stop within)

  pub lag_here : (slice_index_or stops place unset).lag ≡ lag_at stops place
  lag_here = ap (λ (stop : Stop). stop.lag) (get_or_default stops place unset no_stop within)

  pub pace_in_range : IsPaceInRange (slice_index_or stops place unset).pace
  pace_in_range = subst IsPaceInRange (sym pace_here) (are.paces place within)

  pub lag_in_range : IsIntegerWithin MOST_TICKS (slice_index_or stops place unset).lag
  lag_in_range = subst (IsIntegerWithin MOST_TICKS) (sym lag_here) (are.lags place within)

-- a pace of a valid model goes on
pub goes_on : (pace : Pace) → IsPaceInRange pace → IsPace pace
goes_on (Kept phase) range = range.is_phase
goes_on (Free greatest) range = range.0

-- what a hop is given, and where it comes to
pub given_onward : (hops : ℕ) (moment lag : ℤ) → hops ≤ 65 → IsIntegerWithin (FARTHEST_START + hops * HOP) moment → IsIntegerWithin MOST_TICKS lag
    → IsMoment (moment +ℤ lag)
given_onward hops moment lag few near small = (omega (arith, ints, few, near, small), omega (arith, ints, few, near, small))

pub given_back : (hops : ℕ) (moment lag : ℤ) → hops ≤ 65 → IsIntegerWithin (FARTHEST_START + hops * HOP) moment → IsIntegerWithin MOST_TICKS lag
    → IsMoment (moment -ℤ lag)
given_back hops moment lag few near small = (omega (arith, ints, few, near, small), omega (arith, ints, few, near, small))

pub comes_onward : (hops : ℕ) (moment lag result : ℤ) {given : ℤ} → given ≤ℤ result → result ≤ℤ (given +ℤ pos MOST_TICKS)
    → given ≡ moment +ℤ lag → IsIntegerWithin (FARTHEST_START + hops * HOP) moment → IsIntegerWithin MOST_TICKS lag
    → IsIntegerWithin (FARTHEST_START + (hops + 1) * HOP) result
comes_onward hops moment lag result {given} after by is near small =
    (omega (arith, ints, after, by, is, near, small), omega (arith, ints, after, by, is, near, small))

pub comes_back : (hops : ℕ) (moment lag result : ℤ) {given : ℤ} → result ≤ℤ given → (given -ℤ pos MOST_TICKS) ≤ℤ result
    → given ≡ moment -ℤ lag → IsIntegerWithin (FARTHEST_START + hops * HOP) moment → IsIntegerWithin MOST_TICKS lag
    → IsIntegerWithin (FARTHEST_START + (hops + 1) * HOP) result
comes_back hops moment lag result {given} before by is near small =
    (omega (arith, ints, before, by, is, near, small), omega (arith, ints, before, by, is, near, small))

pub comes_before : (arrival result : ℤ) {given : ℤ} → IsIntegerWithin FARTHEST_START arrival → result ≤ℤ (given -ℤ pos 1)
    → ((given -ℤ pos 1) -ℤ pos MOST_TICKS) ≤ℤ result → given ≡ arrival → IsIntegerWithin (FARTHEST_START + 1 * HOP) result
comes_before arrival result {given} near before by is = (omega (arith, ints, before, by, is, near), omega (arith, ints, before, by, is, near))

pub walked_near : (hops : ℕ) (result : ℤ) → hops ≤ 65 → IsIntegerWithin (FARTHEST_START + hops * HOP) result → IsIntegerWithin FARTHEST_WALKED result
walked_near hops result few near = (omega (arith, ints, few, near), omega (arith, ints, few, near))

-- where the walk onward comes by one more hop
pub leads_on : (stops : List Stop) (place : ℕ) (arrival : ℤ) (here : ℕ) (old : ℤ) {given new : ℤ} {pace : Pace}
    → place + 1 ≤ here → old ≡ onward stops place arrival (here - (place + 1)) → pace ≡ pace_at stops here → new ≡ first_from pace given
    → given ≡ old +ℤ lag_at stops (here - 1) → new ≡ onward stops place arrival (here + 1 - (place + 1))
leads_on stops place arrival here old {given} {new} {pace} after was is step from =
    step ∙ ap (λ p. first_from p given) is
    ∙ ap (first_from (pace_at stops here)) (from ∙ ap (λ z. z +ℤ lag_at stops (here - 1)) was)
    ∙ sym (onward_more stops place arrival here after)

-- and the walk back
pub leads_back : (stops : List Stop) (place : ℕ) (arrival : ℤ) (here : ℕ) (old : ℤ) {given new : ℤ} {pace : Pace}
    → 1 ≤ here → here ≤ place → old ≡ back stops place arrival (place - here) → pace ≡ pace_at stops (here - 1) → new ≡ last_by pace given
    → given ≡ old -ℤ lag_at stops (here - 1) → new ≡ back stops place arrival (place - (here - 1))
leads_back stops place arrival here old {given} {new} {pace} some within was is step from =
    step ∙ ap (λ p. last_by p given) is
    ∙ ap (last_by (pace_at stops (here - 1))) (from ∙ ap (λ z. z -ℤ lag_at stops (here - 1)) was)
    ∙ sym (back_more stops place arrival here some within)
