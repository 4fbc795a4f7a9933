use Rattle.std.proofs.Common.{◌≡◌, ◌+◌, ◌-◌, ◌*◌, ◌<◌, ◌≤◌, length, ◌-ℤ◌, ap, sym, ◌∙◌, subst, arith, slice_index_or, to_z, of_z, w64}
use Rattle.std.proofs.lemmas.Int.{ints}
use Rattle.cl_stim.specs.Integers.{IsIntegerWithin}
use Rattle.cl_phase.specs.{Pace.previous, Walks.{pace_at, back}, Inner.Ranges.FARTHEST_START}
use Rattle.cl_phase.proofs.WalkRanges.{HOP, unset, pace_here, lag_here, pace_in_range, lag_in_range, given_back, comes_back, comes_before, walked_near, leads_back}
use Rattle.cl_phase.proofs.walk.arrival_back.Goals as goal

pub previous-moment-requires-clause-pace : goal.previous-moment-requires-clause-pace
previous-moment-requires-clause-pace c = pace_in_range c.args.stops.now c.requires.stops c.args.place c.requires.place

pub loop-here-init : goal.loop-here-init
unfolding back
loop-here-init c =
    let stops = c.args.stops.now in
    let none : c.args.place - c.args.place ≡ 0 = omega arith in
    let one : c.args.place + 1 - c.args.place ≡ 1 = omega arith in
    let arrival = to_z w64 (of_z w64 c.args.arrival) in
    let near = comes_before c.args.arrival c.previous-moment.result {given = arrival} c.requires.arrival
    c.previous-moment.ensures.not_after c.previous-moment.ensures.near (omega (arith, ints, c.requires.arrival)) in
    let there = subst (λ n. IsIntegerWithin (FARTHEST_START + n * HOP) c.previous-moment.result) (sym one) near in
    record {
      within = omega arith;
      ahead = c.requires.to;
      leads = omega (arith, ints, near) ∙ c.previous-moment.ensures.before
          ∙ ap (λ pace. previous pace arrival) (pace_here stops c.requires.stops c.args.place c.requires.place)
          ∙ sym (ap (back stops c.args.place (previous (pace_at stops c.args.place) arrival)) none);
      near = (omega (arith, ints, there), omega (arith, ints, there));
    }

pub overflow_sub-moment : goal.overflow_sub-moment
overflow_sub-moment c =
    let few : c.args.place + 1 - c.loop-here.here ≤ 65 = omega (arith, c.requires.place, c.requires.stops.few) in
    let before : c.loop-here.here - 1 < length c.args.stops.now = omega (arith, c.loop-here.invariant.within, c.requires.place) in
    let small = lag_in_range c.args.stops.now c.requires.stops (c.loop-here.here - 1) before in
    let given = given_back (c.args.place + 1 - c.loop-here.here) _ _ few c.loop-here.invariant.near small in
    omega (arith, ints, given, small)

pub last_by-moment-requires-clause-pace : goal.last_by-moment-requires-clause-pace
last_by-moment-requires-clause-pace c = pace_in_range c.args.stops.now c.requires.stops (c.loop-here.here - 1)
    (omega (arith, c.loop-here.invariant.within, c.requires.place))

pub last_by-moment-requires-clause-moment : goal.last_by-moment-requires-clause-moment
last_by-moment-requires-clause-moment c =
    let few : c.args.place + 1 - c.loop-here.here ≤ 65 = omega (arith, c.requires.place, c.requires.stops.few) in
    let before : c.loop-here.here - 1 < length c.args.stops.now = omega (arith, c.loop-here.invariant.within, c.requires.place) in
    let small = lag_in_range c.args.stops.now c.requires.stops (c.loop-here.here - 1) before in
    let given = given_back (c.args.place + 1 - c.loop-here.here) _ _ few c.loop-here.invariant.near small in
    (omega (arith, ints, given, small), omega (arith, ints, given, small))

pub loop-here-preserved : goal.loop-here-preserved
loop-here-preserved c =
    let stops = c.args.stops.now in
    let here = c.loop-here.here in
    let moment = to_z w64 c.loop-here.moment-bits in
    let few : c.args.place + 1 - here ≤ 65 = omega (arith, c.requires.place, c.requires.stops.few) in
    let before : here - 1 < length stops = omega (arith, c.loop-here.invariant.within, c.requires.place) in
    let small = lag_in_range stops c.requires.stops (here - 1) before in
    let given = given_back (c.args.place + 1 - here) _ _ few c.loop-here.invariant.near small in
    let near = comes_back (c.args.place + 1 - here) moment (slice_index_or stops (here - 1) unset).lag c.last_by-moment.result
    c.last_by-moment.ensures.not_after c.last_by-moment.ensures.near (omega (arith, ints, given, small)) c.loop-here.invariant.near small in
    let count : c.args.place + 1 - here + 1 ≡ c.args.place + 1 - (here - 1) = omega (arith, c.loop-here.invariant.within, c.loop-here-test.true) in
    let there = subst (λ n. IsIntegerWithin (FARTHEST_START + n * HOP) c.last_by-moment.result) count near in
    record {
      within = omega (arith, c.loop-here.invariant.within);
      ahead = omega (arith, c.loop-here-test.true);
      leads = leads_back stops c.args.place _ here moment (omega (arith, c.loop-here-test.true)) c.loop-here.invariant.within c.loop-here.invariant.leads
          (pace_here stops c.requires.stops (here - 1) before)
          (omega (arith, ints, near) ∙ c.last_by-moment.ensures.last)
          (omega (arith, ints, given, small) ∙ ap (λ d. moment -ℤ d) (lag_here stops c.requires.stops (here - 1) before));
      near = (omega (arith, ints, there), omega (arith, ints, there));
    }

pub returns-clause-leads : goal.returns-clause-leads
returns-clause-leads c =
    let there : c.args.place - c.loop-here.here ≡ c.args.place - c.args.to = omega (arith, c.loop-here-test.false, c.loop-here.invariant.ahead) in
    let arrival = to_z w64 (of_z w64 c.args.arrival) in
    let same : arrival ≡ c.args.arrival = omega (arith, ints, c.requires.arrival) in
    c.loop-here.invariant.leads ∙ ap (back c.args.stops.now c.args.place (previous (pace_at c.args.stops.now c.args.place) arrival)) there
    ∙ ap (λ a. back c.args.stops.now c.args.place (previous (pace_at c.args.stops.now c.args.place) a) (c.args.place - c.args.to)) same

pub returns-clause-near : goal.returns-clause-near
returns-clause-near c = walked_near (c.args.place + 1 - c.loop-here.here) _ (omega (arith, c.requires.place, c.requires.stops.few)) c.loop-here.invariant.near
