use Rattle.std.proofs.Common.{◌≡◌, ℕ, ◌+◌, ◌-◌, ◌*◌, ◌<◌, ◌≤◌, length, pos, ◌+ℤ◌, ◌-ℤ◌, ◌≤ℤ◌, ap, sym, ◌∙◌, subst, arith, slice_index_or, to_z, of_z, w64, ℤ}
use Rattle.std.specs.Prelude.{unsigned_abs}
use Rattle.std.proofs.lemmas.Int.{ints}
use Rattle.cl_model.specs.declared.limits.TheConstants.{MOST_TICKS}
use Rattle.cl_stim.specs.{Integers.IsIntegerWithin, Phase.IsMoment}
use Rattle.cl_phase.specs.{Walks.{pace_at, onward}, Inner.{Even.{AreEvenTurns, LeadsEvenly}, Ranges.FARTHEST_START}}
use Rattle.cl_phase.proofs.{EvenHops.{onward_to, onward_begins, onward_evenly, onward_ends}, WalkRanges.{HOP, unset, pace_here, lag_here, pace_in_range, lag_in_range, given_onward, comes_onward, leads_on}}
use Rattle.cl_phase.proofs.even.leads_evenly_onward.Goals as goal

-- a number as code holds it
abbrev passed : ℤ → ℤ
passed z = to_z w64 (of_z w64 z)

-- code adds a lag without a wrap
sum_is : (moment lag : ℤ) → IsMoment (moment +ℤ lag) → IsIntegerWithin MOST_TICKS lag → passed (moment +ℤ passed lag) ≡ moment +ℤ lag
sum_is moment lag near small = omega (arith, ints, near, small)

held : (hops : ℕ) (result : ℤ) → hops ≤ 65 → IsIntegerWithin (FARTHEST_START + (hops + 1) * HOP) result → passed result ≡ result
held hops result few near = omega (arith, ints, few, near)

apart_is : (one other : ℤ) (apart hops : ℕ) → hops ≤ 65 → IsIntegerWithin (FARTHEST_START + (hops + 1) * HOP) one → IsIntegerWithin (FARTHEST_START + (hops + 1) * HOP) other
    → apart ≡ unsigned_abs (passed other -ℤ passed one) → passed one ≤ℤ passed other → passed other ≡ (passed one +ℤ pos apart)
apart_is one other apart hops few near near' is ordered = omega (arith, ints, few, near, near', is, ordered)

pub loop-i-init : goal.loop-i-init
unfolding onward_to onward
loop-i-init c =
    let stops = c.args.stops.now in
    let place = c.args.place in
    let none : place + 1 - (place + 1) ≡ 0 = omega arith in
    let end = c.args.arrival + c.args.strides * c.args.stride in
    record {
      evenly = onward_begins stops c.requires.stops place c.args.arrival c.args.stride c.args.strides c.requires.round;
      one = omega (arith, ints, c.requires.near) ∙ sym (ap (onward stops place (pos c.args.arrival)) none);
      other = omega (arith, ints, c.requires.near) ∙ sym (ap (onward stops place (pos end)) none);
      one_near = (omega (arith, ints, c.requires.near), omega (arith, ints, c.requires.near));
      other_near = (omega (arith, ints, c.requires.near), omega (arith, ints, c.requires.near));
    }

pub first_from-one-requires-clause-pace : goal.first_from-one-requires-clause-pace
first_from-one-requires-clause-pace c = pace_in_range c.args.stops.now c.requires.stops c.loop-i.i (omega (arith, c.loop-i-test.true, c.loop-i.auto.i-end))

pub first_from-one-requires-clause-moment : goal.first_from-one-requires-clause-moment
first_from-one-requires-clause-moment c =
    let few : c.loop-i.i ≤ 65 = omega (arith, c.loop-i-test.true, c.loop-i.auto.i-end, c.requires.stops.few) in
    let small = lag_in_range c.args.stops.now c.requires.stops (c.loop-i.i - 1) (omega (arith, c.loop-i-test.true, c.loop-i.auto.i-end)) in
    let given = given_onward c.loop-i.i _ _ few c.loop-i.invariant.one_near small in
    (omega (arith, ints, given, small), omega (arith, ints, given, small))

pub overflow_add-other-in-loop-i : goal.overflow_add-other-in-loop-i
overflow_add-other-in-loop-i c =
    let few : c.loop-i.i ≤ 65 = omega (arith, c.loop-i-test.true, c.loop-i.auto.i-end, c.requires.stops.few) in
    let small = lag_in_range c.args.stops.now c.requires.stops (c.loop-i.i - 1) (omega (arith, c.loop-i-test.true, c.loop-i.auto.i-end)) in
    let given = given_onward c.loop-i.i _ _ few c.loop-i.invariant.other_near small in
    omega (arith, ints, given, small)

pub first_from-other-requires-clause-pace : goal.first_from-other-requires-clause-pace
first_from-other-requires-clause-pace c = pace_in_range c.args.stops.now c.requires.stops c.loop-i.i (omega (arith, c.loop-i-test.true, c.loop-i.auto.i-end))

pub first_from-other-requires-clause-moment : goal.first_from-other-requires-clause-moment
first_from-other-requires-clause-moment c =
    let few : c.loop-i.i ≤ 65 = omega (arith, c.loop-i-test.true, c.loop-i.auto.i-end, c.requires.stops.few) in
    let small = lag_in_range c.args.stops.now c.requires.stops (c.loop-i.i - 1) (omega (arith, c.loop-i-test.true, c.loop-i.auto.i-end)) in
    let given = given_onward c.loop-i.i _ _ few c.loop-i.invariant.other_near small in
    (omega (arith, ints, given, small), omega (arith, ints, given, small))

pub turns_evenly-requires-clause-pace : goal.turns_evenly-requires-clause-pace
turns_evenly-requires-clause-pace c = pace_in_range c.args.stops.now c.requires.stops c.loop-i.i (omega (arith, c.loop-i-test.true, c.loop-i.auto.i-end))

pub loop-i-preserved : goal.loop-i-preserved
unfolding onward_to
loop-i-preserved c =
    let stops = c.args.stops.now in
    let place = c.args.place in
    let here = c.loop-i.i in
    let start = c.args.arrival in
    let end = c.args.arrival + c.args.strides * c.args.stride in
    let lag = (slice_index_or stops (here - 1) unset).lag in
    let few : here ≤ 65 = omega (arith, c.loop-i-test.true, c.loop-i.auto.i-end, c.requires.stops.few) in
    let inside : here < length stops = omega (arith, c.loop-i-test.true, c.loop-i.auto.i-end) in
    let before : here - 1 < length stops = omega (arith, inside) in
    let small = lag_in_range stops c.requires.stops (here - 1) before in
    let given = given_onward here _ _ few c.loop-i.invariant.one_near small in
    let given' = given_onward here _ _ few c.loop-i.invariant.other_near small in
    let one = to_z w64 c.loop-i.one-bits in
    let other = to_z w64 c.loop-i.other-bits in
    let moved = sum_is one lag given small in
    let moved' = sum_is other lag given' small in
    let near = comes_onward here one lag c.first_from-one.result
    c.first_from-one.ensures.not_before c.first_from-one.ensures.near moved c.loop-i.invariant.one_near small in
    let near' = comes_onward here other lag c.first_from-other.result
    c.first_from-other.ensures.not_before c.first_from-other.ensures.near moved' c.loop-i.invariant.other_near small in
    let after : place + 1 ≤ here = omega (arith, c.loop-i.auto.i) in
    let one_is = leads_on stops place (pos start) here one after c.loop-i.invariant.one (pace_here stops c.requires.stops here inside)
    (held here _ few near ∙ c.first_from-one.ensures.first)
    (moved ∙ ap (λ d. one +ℤ d) (lag_here stops c.requires.stops (here - 1) before)) in
    let other_is = leads_on stops place (pos end) here other after c.loop-i.invariant.other (pace_here stops c.requires.stops here inside)
    (held here _ few near' ∙ c.first_from-other.ensures.first)
    (moved' ∙ ap (λ d. other +ℤ d) (lag_here stops c.requires.stops (here - 1) before)) in
    let even = subst (λ pace. AreEvenTurns pace c.abs_diff.result c.args.strides) (pace_here stops c.requires.stops here inside)
    (c.turns_evenly.ensures c.if-not-turns_evenly.false) in
    let next : here + 1 - 1 ≡ here = omega arith in
    record {
      evenly = subst (λ n. LeadsEvenly (pace_at stops n) (onward_to stops place (here + 1 - (place + 1))) start c.args.stride c.args.strides) (sym next)
          (onward_evenly stops c.requires.stops place start c.args.stride c.args.strides c.requires.some here c.abs_diff.result _ _ after inside
          c.loop-i.invariant.evenly one_is other_is (apart_is c.first_from-one.result c.first_from-other.result c.abs_diff.result here few near near' c.abs_diff.ensures) even);
      one = one_is;
      other = other_is;
      one_near = subst (IsIntegerWithin (FARTHEST_START + (here + 1) * HOP)) (sym (held here _ few near)) near;
      other_near = subst (IsIntegerWithin (FARTHEST_START + (here + 1) * HOP)) (sym (held here _ few near')) near';
    }

pub returns : goal.returns
returns c = λ _.
    let stops = c.args.stops.now in
    let place = c.args.place in
    let here = c.loop-i.i in
    let all : here ≡ length stops = omega (arith, c.loop-i-test.false, c.loop-i.auto.i-end, c.requires.place) in
    onward_ends stops c.requires.stops place c.args.arrival c.args.stride c.args.strides (here - (place + 1)) (here - 1)
    (omega (arith, all)) (omega (arith, all)) c.loop-i.invariant.evenly
