use Rattle.std.proofs.Common.{◌≡◌, ℕ, ◌+◌, ◌-◌, ◌*◌, ◌<◌, ◌≤◌, length, pos, ◌+ℤ◌, ◌-ℤ◌, ◌≤ℤ◌, ap, sym, ◌∙◌, subst, arith, slice_index_or, to_z, of_z, w64, ℤ}
use Rattle.std.specs.Prelude.{unsigned_abs}
use Rattle.std.proofs.lemmas.Int.{ints}
use Rattle.cl_model.specs.declared.limits.TheConstants.{MOST_TICKS}
use Rattle.cl_stim.specs.{Integers.IsIntegerWithin, Phase.IsMoment}
use Rattle.cl_phase.specs.{Pace.previous, Walks.{pace_at, back}, Inner.{Even.AreEvenTurns, Ranges.FARTHEST_START}}
use Rattle.cl_phase.proofs.{EvenHops.{back_to, back_begins, back_evenly, back_ends}, WalkRanges.{HOP, unset, pace_here, lag_here, pace_in_range, lag_in_range, goes_on, given_back, comes_back, comes_before, leads_back}}
use Rattle.cl_phase.proofs.even.leads_evenly_back.Goals as goal

-- a number as code holds it
abbrev passed : ℤ → ℤ
passed z = to_z w64 (of_z w64 z)

-- code takes a lag away without a wrap
rest_is : (moment lag : ℤ) → IsMoment (moment -ℤ lag) → IsIntegerWithin MOST_TICKS lag → passed (moment -ℤ passed lag) ≡ moment -ℤ lag
rest_is moment lag near small = omega (arith, ints, near, small)

held : (hops : ℕ) (result : ℤ) → hops ≤ 65 → IsIntegerWithin (FARTHEST_START + (hops + 1) * HOP) result → passed result ≡ result
held hops result few near = omega (arith, ints, few, near)

apart_is : (one other : ℤ) (apart hops : ℕ) → hops ≤ 65 → IsIntegerWithin (FARTHEST_START + (hops + 1) * HOP) one → IsIntegerWithin (FARTHEST_START + (hops + 1) * HOP) other
    → apart ≡ unsigned_abs (passed other -ℤ passed one) → passed one ≤ℤ passed other → passed other ≡ (passed one +ℤ pos apart)
apart_is one other apart hops few near near' is ordered = omega (arith, ints, few, near, near', is, ordered)

pub previous-one-requires-clause-pace : goal.previous-one-requires-clause-pace
previous-one-requires-clause-pace c = pace_in_range c.args.stops.now c.requires.stops c.args.place c.requires.place

pub previous-other-requires-clause-pace : goal.previous-other-requires-clause-pace
previous-other-requires-clause-pace c = pace_in_range c.args.stops.now c.requires.stops c.args.place c.requires.place

pub loop-here-init : goal.loop-here-init
unfolding back_to back
loop-here-init c =
    let stops = c.args.stops.now in
    let place = c.args.place in
    let none : place - place ≡ 0 = omega arith in
    let first : place + 1 - place ≡ 1 = omega arith in
    let start = c.args.arrival in
    let end = c.args.arrival + c.args.strides * c.args.stride in
    let start_near : IsIntegerWithin FARTHEST_START (pos start) = (omega (arith, ints, c.requires.near), omega (arith, ints, c.requires.near)) in
    let end_near : IsIntegerWithin FARTHEST_START (pos end) = (omega (arith, ints, c.requires.near), omega (arith, ints, c.requires.near)) in
    let start_is : to_z w64 start ≡ pos start = omega (arith, ints, c.requires.near) in
    let end_is : to_z w64 end ≡ pos end = omega (arith, ints, c.requires.near) in
    let near = comes_before (pos start) c.previous-one.result {given = to_z w64 start} start_near c.previous-one.ensures.not_after c.previous-one.ensures.near start_is in
    let near' = comes_before (pos end) c.previous-other.result {given = to_z w64 end} end_near c.previous-other.ensures.not_after c.previous-other.ensures.near end_is in
    let there = subst (λ n. IsIntegerWithin (FARTHEST_START + n * HOP) c.previous-one.result) (sym first) near in
    let there' = subst (λ n. IsIntegerWithin (FARTHEST_START + n * HOP) c.previous-other.result) (sym first) near' in
    record {
      within = omega arith;
      evenly = back_begins stops c.requires.stops place start c.args.stride c.args.strides (goes_on (pace_at stops place) (c.requires.stops.paces place c.requires.place)) c.requires.round;
      one = omega (arith, ints, near) ∙ c.previous-one.ensures.before ∙ ap (λ pace. previous pace (to_z w64 start)) (pace_here stops c.requires.stops place c.requires.place)
          ∙ ap (previous (pace_at stops place)) start_is ∙ sym (ap (back stops place (previous (pace_at stops place) (pos start))) none);
      other = omega (arith, ints, near') ∙ c.previous-other.ensures.before ∙ ap (λ pace. previous pace (to_z w64 end)) (pace_here stops c.requires.stops place c.requires.place)
          ∙ ap (previous (pace_at stops place)) end_is ∙ sym (ap (back stops place (previous (pace_at stops place) (pos end))) none);
      one_near = (omega (arith, ints, there), omega (arith, ints, there));
      other_near = (omega (arith, ints, there'), omega (arith, ints, there'));
    }

pub overflow_sub-one : goal.overflow_sub-one
overflow_sub-one c =
    let few : c.args.place + 1 - c.loop-here.here ≤ 65 = omega (arith, c.requires.place, c.requires.stops.few) in
    let before : c.loop-here.here - 1 < length c.args.stops.now = omega (arith, c.loop-here.invariant.within, c.requires.place) in
    let small = lag_in_range c.args.stops.now c.requires.stops (c.loop-here.here - 1) before in
    let given = given_back (c.args.place + 1 - c.loop-here.here) _ _ few c.loop-here.invariant.one_near small in
    omega (arith, ints, given, small)

pub overflow_sub-other : goal.overflow_sub-other
overflow_sub-other c =
    let few : c.args.place + 1 - c.loop-here.here ≤ 65 = omega (arith, c.requires.place, c.requires.stops.few) in
    let before : c.loop-here.here - 1 < length c.args.stops.now = omega (arith, c.loop-here.invariant.within, c.requires.place) in
    let small = lag_in_range c.args.stops.now c.requires.stops (c.loop-here.here - 1) before in
    let given = given_back (c.args.place + 1 - c.loop-here.here) _ _ few c.loop-here.invariant.other_near small in
    omega (arith, ints, given, small)

pub last_by-one-requires-clause-pace : goal.last_by-one-requires-clause-pace
last_by-one-requires-clause-pace c = pace_in_range c.args.stops.now c.requires.stops (c.loop-here.here - 1) (omega (arith, c.loop-here.invariant.within, c.requires.place))

pub last_by-one-requires-clause-moment : goal.last_by-one-requires-clause-moment
last_by-one-requires-clause-moment c =
    let few : c.args.place + 1 - c.loop-here.here ≤ 65 = omega (arith, c.requires.place, c.requires.stops.few) in
    let before : c.loop-here.here - 1 < length c.args.stops.now = omega (arith, c.loop-here.invariant.within, c.requires.place) in
    let small = lag_in_range c.args.stops.now c.requires.stops (c.loop-here.here - 1) before in
    let given = given_back (c.args.place + 1 - c.loop-here.here) _ _ few c.loop-here.invariant.one_near small in
    (omega (arith, ints, given, small), omega (arith, ints, given, small))

pub last_by-other-requires-clause-pace : goal.last_by-other-requires-clause-pace
last_by-other-requires-clause-pace c = pace_in_range c.args.stops.now c.requires.stops (c.loop-here.here - 1) (omega (arith, c.loop-here.invariant.within, c.requires.place))

pub last_by-other-requires-clause-moment : goal.last_by-other-requires-clause-moment
last_by-other-requires-clause-moment c =
    let few : c.args.place + 1 - c.loop-here.here ≤ 65 = omega (arith, c.requires.place, c.requires.stops.few) in
    let before : c.loop-here.here - 1 < length c.args.stops.now = omega (arith, c.loop-here.invariant.within, c.requires.place) in
    let small = lag_in_range c.args.stops.now c.requires.stops (c.loop-here.here - 1) before in
    let given = given_back (c.args.place + 1 - c.loop-here.here) _ _ few c.loop-here.invariant.other_near small in
    (omega (arith, ints, given, small), omega (arith, ints, given, small))

pub turns_evenly-requires-clause-pace : goal.turns_evenly-requires-clause-pace
turns_evenly-requires-clause-pace c = pace_in_range c.args.stops.now c.requires.stops (c.loop-here.here - 1) (omega (arith, c.loop-here.invariant.within, c.requires.place))

pub loop-here-preserved : goal.loop-here-preserved
unfolding back_to
loop-here-preserved c =
    let stops = c.args.stops.now in
    let place = c.args.place in
    let here = c.loop-here.here in
    let start = c.args.arrival in
    let end = c.args.arrival + c.args.strides * c.args.stride in
    let lag = (slice_index_or stops (here - 1) unset).lag in
    let few : place + 1 - here ≤ 65 = omega (arith, c.requires.place, c.requires.stops.few) in
    let some : 1 ≤ here = omega (arith, c.loop-here-test.true) in
    let before : here - 1 < length stops = omega (arith, c.loop-here.invariant.within, c.requires.place) in
    let small = lag_in_range stops c.requires.stops (here - 1) before in
    let one = to_z w64 c.loop-here.one-bits in
    let other = to_z w64 c.loop-here.other-bits in
    let given = given_back (place + 1 - here) _ _ few c.loop-here.invariant.one_near small in
    let given' = given_back (place + 1 - here) _ _ few c.loop-here.invariant.other_near small in
    let moved = rest_is one lag given small in
    let moved' = rest_is other lag given' small in
    let near = comes_back (place + 1 - here) one lag c.last_by-one.result
    c.last_by-one.ensures.not_after c.last_by-one.ensures.near moved c.loop-here.invariant.one_near small in
    let near' = comes_back (place + 1 - here) other lag c.last_by-other.result
    c.last_by-other.ensures.not_after c.last_by-other.ensures.near moved' c.loop-here.invariant.other_near small in
    let count : place + 1 - here + 1 ≡ place + 1 - (here - 1) = omega (arith, c.loop-here.invariant.within, c.loop-here-test.true) in
    let there = subst (λ n. IsIntegerWithin (FARTHEST_START + n * HOP) (passed c.last_by-one.result)) count
    (subst (IsIntegerWithin (FARTHEST_START + (place + 1 - here + 1) * HOP)) (sym (held (place + 1 - here) _ few near)) near) in
    let there' = subst (λ n. IsIntegerWithin (FARTHEST_START + n * HOP) (passed c.last_by-other.result)) count
    (subst (IsIntegerWithin (FARTHEST_START + (place + 1 - here + 1) * HOP)) (sym (held (place + 1 - here) _ few near')) near') in
    let begin : ℤ → ℤ = λ from. previous (pace_at stops place) from in
    let one_is = leads_back stops place (begin (pos start)) here one some c.loop-here.invariant.within c.loop-here.invariant.one (pace_here stops c.requires.stops (here - 1) before)
    (held (place + 1 - here) _ few near ∙ c.last_by-one.ensures.last)
    (moved ∙ ap (λ d. one -ℤ d) (lag_here stops c.requires.stops (here - 1) before)) in
    let other_is = leads_back stops place (begin (pos end)) here other some c.loop-here.invariant.within c.loop-here.invariant.other (pace_here stops c.requires.stops (here - 1) before)
    (held (place + 1 - here) _ few near' ∙ c.last_by-other.ensures.last)
    (moved' ∙ ap (λ d. other -ℤ d) (lag_here stops c.requires.stops (here - 1) before)) in
    let even = subst (λ pace. AreEvenTurns pace c.abs_diff.result c.args.strides) (pace_here stops c.requires.stops (here - 1) before)
    (c.turns_evenly.ensures c.if-not-turns_evenly.false) in
    record {
      within = omega (arith, c.loop-here.invariant.within);
      evenly = back_evenly stops c.requires.stops place start c.args.stride c.args.strides c.requires.some here c.abs_diff.result _ _ some c.loop-here.invariant.within c.requires.place
          c.loop-here.invariant.evenly one_is other_is (apart_is c.last_by-one.result c.last_by-other.result c.abs_diff.result (place + 1 - here) few near near' c.abs_diff.ensures) even;
      one = one_is;
      other = other_is;
      one_near = there;
      other_near = there';
    }

pub returns : goal.returns
returns c = λ _.
    let none : c.loop-here.here ≡ 0 = omega (arith, c.loop-here-test.false) in
    back_ends c.args.stops.now c.requires.stops c.args.place c.args.arrival c.args.stride c.args.strides c.loop-here.here none c.loop-here.invariant.evenly
