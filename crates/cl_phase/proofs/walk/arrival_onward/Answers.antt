use Rattle.std.proofs.Common.{◌≡◌, ◌+◌, ◌-◌, ◌<◌, ◌≤◌, length, ◌+ℤ◌, ap, sym, ◌∙◌, arith, slice_index_or, to_z, of_z, w64}
use Rattle.std.proofs.lemmas.Int.{ints}
use Rattle.cl_phase.specs.Walks.{onward}
use Rattle.cl_phase.proofs.WalkRanges.{unset, pace_here, lag_here, pace_in_range, lag_in_range, given_onward, comes_onward, leads_on}
use Rattle.cl_phase.proofs.walk.arrival_onward.Goals as goal

pub loop-i-init : goal.loop-i-init
unfolding onward
loop-i-init c =
    let none : c.args.place + 1 - (c.args.place + 1) ≡ 0 = omega arith in
    record {
      leads = sym (ap (onward c.args.stops.now c.args.place (to_z w64 (of_z w64 c.args.arrival))) none);
      near = (omega (arith, ints, c.requires.arrival), omega (arith, ints, c.requires.arrival));
    }

pub overflow_add-moment : goal.overflow_add-moment
overflow_add-moment c =
    let few : c.loop-i.i ≤ 65 = omega (arith, c.loop-i-test.true, c.requires.to, c.requires.stops.few) in
    let small = lag_in_range c.args.stops.now c.requires.stops (c.loop-i.i - 1) (omega (arith, c.loop-i-test.true, c.requires.to)) in
    let given = given_onward c.loop-i.i _ _ few c.loop-i.invariant.near small in
    omega (arith, ints, given, small)

pub first_from-moment-requires-clause-pace : goal.first_from-moment-requires-clause-pace
first_from-moment-requires-clause-pace c = pace_in_range c.args.stops.now c.requires.stops c.loop-i.i (omega (arith, c.loop-i-test.true, c.requires.to))

pub first_from-moment-requires-clause-moment : goal.first_from-moment-requires-clause-moment
first_from-moment-requires-clause-moment c =
    let few : c.loop-i.i ≤ 65 = omega (arith, c.loop-i-test.true, c.requires.to, c.requires.stops.few) in
    let small = lag_in_range c.args.stops.now c.requires.stops (c.loop-i.i - 1) (omega (arith, c.loop-i-test.true, c.requires.to)) in
    let given = given_onward c.loop-i.i _ _ few c.loop-i.invariant.near small in
    (omega (arith, ints, given, small), omega (arith, ints, given, small))

pub loop-i-preserved : goal.loop-i-preserved
loop-i-preserved c =
    let stops = c.args.stops.now in
    let few : c.loop-i.i ≤ 65 = omega (arith, c.loop-i-test.true, c.requires.to, c.requires.stops.few) in
    let before : c.loop-i.i - 1 < length stops = omega (arith, c.loop-i-test.true, c.requires.to) in
    let small = lag_in_range stops c.requires.stops (c.loop-i.i - 1) before in
    let given = given_onward c.loop-i.i _ _ few c.loop-i.invariant.near small in
    let near = comes_onward c.loop-i.i (to_z w64 c.loop-i.moment-bits) (slice_index_or stops (c.loop-i.i - 1) unset).lag c.first_from-moment.result
    c.first_from-moment.ensures.not_before c.first_from-moment.ensures.near (omega (arith, ints, given, small)) c.loop-i.invariant.near small in
    record {
      leads = leads_on stops c.args.place _ c.loop-i.i (to_z w64 c.loop-i.moment-bits) (omega (arith, c.loop-i.auto.i)) c.loop-i.invariant.leads
          (pace_here stops c.requires.stops c.loop-i.i (omega (arith, c.loop-i-test.true, c.requires.to)))
          (omega (arith, ints, near) ∙ c.first_from-moment.ensures.first)
          (omega (arith, ints, given, small) ∙ ap (λ d. to_z w64 c.loop-i.moment-bits +ℤ d) (lag_here stops c.requires.stops (c.loop-i.i - 1) before));
      near = (omega (arith, ints, near), omega (arith, ints, near));
    }
