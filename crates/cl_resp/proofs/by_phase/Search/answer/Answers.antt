use Rattle.std.proofs.Common.{◌≡◌, ◌≤◌, inl, inr, pos, ◌-ℤ◌, ◌≤ℤ◌, ◌<ℤ◌, true, ℕ, ℤ, to_z, w64, sym, ap, ◌∙◌, subst, arith}
use Rattle.std.specs.Prelude.{Option, MatchOption, unwrap_or}
use Rattle.std.proofs.lemmas.Int.{ints}
use Rattle.cl_stim.specs.Phase.{last_arrival}
use Rattle.cl_resp.specs.{Asked.is_answered, Inner.{Phased.asked_of, Searching.{IsLeastSoFar, NoneSuffices}}}
use Rattle.cl_resp.proofs.{SearchedReleases.{last_before, none_after}, SearchedArrivals.{passed, passed_arrival, passed_before, near_it, begins_there, last_or_before, longer_or_same, is_longer, ends_near, way_falls, ended, enough, reached_more, none_suffices, answered_all_down}}
use Rattle.cl_resp.proofs.SearchedArrivals.{none_begun, answered_further, answered_by_widest}
use Rattle.cl_resp.proofs.by_phase.Search.answer.Goals as goal

itself : (z : ℤ) → z ≤ℤ z
itself z = omega (arith, ints)

pub loop-start-init : goal.loop-start-init
loop-start-init c =
    let range = c.requires.in_range in
    let arrival = passed c.args.arrival in
    let jitter : c.args.question.now.beside.jitter ≤ 1000000000000 = omega (arith, range.beside.released_before, range.beside.deadline) in
    record {
      by_latest = omega (arith, ints, c.requires.arrival, range.short, jitter);
      reached = c.requires.so_far;
      longer = omega arith;
      answered = none_begun c.args.question.now arrival c.args.so_far _ (omega (arith, ints, c.requires.arrival, range.short, jitter));
    }

pub may_be_longer-requires-clause-start : goal.may_be_longer-requires-clause-start
may_be_longer-requires-clause-start c =
    let near = near_it c.args.question.now c.requires.in_range c.args.arrival c.requires.arrival (to_z w64 c.loop-start.start-bits) c.last_arrival-before.result
    c.last_arrival-before.ensures.not_after c.last_arrival-before.ensures.near c.loop-start-test.true c.loop-start.invariant.by_latest in
    (omega (arith, ints, near), omega (arith, ints, near))

pub may_be_longer-requires-clause-longest : goal.may_be_longer-requires-clause-longest
may_be_longer-requires-clause-longest c = omega (arith, c.loop-start.invariant.reached.by_deadline, c.requires.in_range.beside.deadline)

pub overflow_sub-latest : goal.overflow_sub-latest
overflow_sub-latest c =
    let near = near_it c.args.question.now c.requires.in_range c.args.arrival c.requires.arrival (to_z w64 c.loop-start.start-bits) c.last_arrival-before.result
    c.last_arrival-before.ensures.not_after c.last_arrival-before.ensures.near c.loop-start-test.true c.loop-start.invariant.by_latest in
    omega (arith, ints, near)

pub overflow_cast-latest-in-loop-start : goal.overflow_cast-latest-in-loop-start
overflow_cast-latest-in-loop-start c =
    let near = near_it c.args.question.now c.requires.in_range c.args.arrival c.requires.arrival (to_z w64 c.loop-start.start-bits) c.last_arrival-before.result
    c.last_arrival-before.ensures.not_after c.last_arrival-before.ensures.near c.loop-start-test.true c.loop-start.invariant.by_latest in
    (omega (arith, ints, near), omega (arith, ints, near))

pub window_from-requires-clause-start : goal.window_from-requires-clause-start
window_from-requires-clause-start c =
    let near = near_it c.args.question.now c.requires.in_range c.args.arrival c.requires.arrival (to_z w64 c.loop-start.start-bits) c.last_arrival-before.result
    c.last_arrival-before.ensures.not_after c.last_arrival-before.ensures.near c.loop-start-test.true c.loop-start.invariant.by_latest in
    (omega (arith, ints, near), omega (arith, ints, near))

pub window_from-requires-clause-most : goal.window_from-requires-clause-most
window_from-requires-clause-most c =
    let near = near_it c.args.question.now c.requires.in_range c.args.arrival c.requires.arrival (to_z w64 c.loop-start.start-bits) c.last_arrival-before.result
    c.last_arrival-before.ensures.not_after c.last_arrival-before.ensures.near c.loop-start-test.true c.loop-start.invariant.by_latest in
    omega (arith, ints, near)

pub returns-in_err-width : goal.returns-in_err-width
returns-in_err-width c =
    let question = c.args.question.now in
    let near = near_it c.args.question.now c.requires.in_range c.args.arrival c.requires.arrival (to_z w64 c.loop-start.start-bits) c.last_arrival-before.result
    c.last_arrival-before.ensures.not_after c.last_arrival-before.ensures.near c.loop-start-test.true c.loop-start.invariant.by_latest in
    let may = begins_there c.args.question.now c.requires.in_range c.args.arrival c.requires.arrival (to_z w64 c.loop-start.start-bits) c.last_arrival-before.result
    c.last_arrival-before.ensures.not_after c.last_arrival-before.ensures.near c.loop-start-test.true c.loop-start.invariant.by_latest c.last_arrival-before.ensures.last in
    subst (λ (found : Option ℕ). MatchOption found (NoneSuffices (asked_of question))
    (λ longest. IsLeastSoFar (asked_of question) longest × (c.args.so_far ≤ longest) × (is_answered (asked_of question) longest c.args.arrival ≡ true)))
    (sym c.from_residual.ensures)
    (none_suffices (asked_of question) c.requires.in_range.arrivals.is_phase c.args.arrival c.requires.arrival.0 c.requires.arrival.1 c.requires.arrives
    (to_z w64 c.loop-start.start-bits) may _ (omega (arith, ints, near)) c.in_err-width.ensures)

pub overflow_cast-width : goal.overflow_cast-width
overflow_cast-width c =
    let near = near_it c.args.question.now c.requires.in_range c.args.arrival c.requires.arrival (to_z w64 c.loop-start.start-bits) c.last_arrival-before.result
    c.last_arrival-before.ensures.not_after c.last_arrival-before.ensures.near c.loop-start-test.true c.loop-start.invariant.by_latest in
    let ends = ends_near c.args.question.now c.args.arrival (to_z w64 c.loop-start.start-bits) c.in_ok-width.width near c.in_ok-width.ensures.1 in
    omega (arith, ints, near, ends)

pub overflow_add-start-in-loop-start : goal.overflow_add-start-in-loop-start
overflow_add-start-in-loop-start c =
    let near = near_it c.args.question.now c.requires.in_range c.args.arrival c.requires.arrival (to_z w64 c.loop-start.start-bits) c.last_arrival-before.result
    c.last_arrival-before.ensures.not_after c.last_arrival-before.ensures.near c.loop-start-test.true c.loop-start.invariant.by_latest in
    let ends = ends_near c.args.question.now c.args.arrival (to_z w64 c.loop-start.start-bits) c.in_ok-width.width near c.in_ok-width.ensures.1 in
    omega (arith, ints, near, ends)

pub overflow_sub-start : goal.overflow_sub-start
overflow_sub-start c =
    let near = near_it c.args.question.now c.requires.in_range c.args.arrival c.requires.arrival (to_z w64 c.loop-start.start-bits) c.last_arrival-before.result
    c.last_arrival-before.ensures.not_after c.last_arrival-before.ensures.near c.loop-start-test.true c.loop-start.invariant.by_latest in
    let ends = ends_near c.args.question.now c.args.arrival (to_z w64 c.loop-start.start-bits) c.in_ok-width.width near c.in_ok-width.ensures.1 in
    omega (arith, ints, near, ends)

pub overflow_cast-max : goal.overflow_cast-max
overflow_cast-max c =
    let near = near_it c.args.question.now c.requires.in_range c.args.arrival c.requires.arrival (to_z w64 c.loop-start.start-bits) c.last_arrival-before.result
    c.last_arrival-before.ensures.not_after c.last_arrival-before.ensures.near c.loop-start-test.true c.loop-start.invariant.by_latest in
    (omega (arith, ints, c.max.ensures.other_bound, c.max.type_inv), omega (arith, ints, c.max.ensures.other_bound, c.max.type_inv))

pub last_release_before-requires-clause-start : goal.last_release_before-requires-clause-start
last_release_before-requires-clause-start c =
    let near = near_it c.args.question.now c.requires.in_range c.args.arrival c.requires.arrival (to_z w64 c.loop-start.start-bits) c.last_arrival-before.result
    c.last_arrival-before.ensures.not_after c.last_arrival-before.ensures.near c.loop-start-test.true c.loop-start.invariant.by_latest in
    (omega (arith, ints, near), omega (arith, ints, near))

pub loop-start-smaller : goal.loop-start-smaller
loop-start-smaller c =
    let near = near_it c.args.question.now c.requires.in_range c.args.arrival c.requires.arrival (to_z w64 c.loop-start.start-bits) c.last_arrival-before.result
    c.last_arrival-before.ensures.not_after c.last_arrival-before.ensures.near c.loop-start-test.true c.loop-start.invariant.by_latest in
    let start = to_z w64 c.loop-start.start-bits in
    let before = c.last_arrival-before.result in
    let test : passed before <ℤ start = omega (arith, ints, c.loop-start-test.true) in
    let earlier = last_or_before c.last_release_before.result (passed before) start (last_before c.args.question.now _ c.last_release_before.result c.last_release_before.ensures) test in
    let less : passed c.unwrap_or-start.result <ℤ start = omega (arith, ints, c.unwrap_or-start.type_inv, c.unwrap_or-start.ensures, earlier) in
    way_falls (passed c.unwrap_or-start.result) start (passed before) less test

pub loop-start-preserved : goal.loop-start-preserved
loop-start-preserved c =
    let question = c.args.question.now in
    let asked = asked_of question in
    let start = to_z w64 c.loop-start.start-bits in
    let before = c.last_arrival-before.result in
    let arrival = passed c.args.arrival in
    let width = c.in_ok-width.width in
    let last = c.last_release_before.result in
    let was = c.loop-start.invariant in
    let near = near_it c.args.question.now c.requires.in_range c.args.arrival c.requires.arrival (to_z w64 c.loop-start.start-bits) c.last_arrival-before.result
    c.last_arrival-before.ensures.not_after c.last_arrival-before.ensures.near c.loop-start-test.true c.loop-start.invariant.by_latest in
    let may = begins_there c.args.question.now c.requires.in_range c.args.arrival c.requires.arrival (to_z w64 c.loop-start.start-bits) c.last_arrival-before.result
    c.last_arrival-before.ensures.not_after c.last_arrival-before.ensures.near c.loop-start-test.true c.loop-start.invariant.by_latest c.last_arrival-before.ensures.last in
    let ends = ends_near c.args.question.now c.args.arrival (to_z w64 c.loop-start.start-bits) c.in_ok-width.width near c.in_ok-width.ensures.1 in
    let same = passed_arrival question c.requires.in_range c.args.arrival c.requires.arrival in
    let test : passed before <ℤ start = omega (arith, ints, c.loop-start-test.true) in
    let earlier = last_or_before last (passed before) start (last_before c.args.question.now _ c.last_release_before.result c.last_release_before.ensures) test in
    let next : passed c.unwrap_or-start.result ≡ unwrap_or last (passed before) = omega (arith, ints, c.unwrap_or-start.type_inv, c.unwrap_or-start.ensures) in
    let more : c.loop-start.longest ≤ c.max-longest.result = omega (arith, c.max-longest.ensures) in
    let at_least = is_longer c.loop-start.longest c.max-longest.result (passed c.max.result) _ c.max-longest.ensures
    (omega (arith, ints, c.max.type_inv) ∙ c.max.ensures.value) in
    let either = longer_or_same c.loop-start.longest c.max-longest.result (passed c.max.result) _ c.max-longest.ensures
    (omega (arith, ints, c.max.type_inv) ∙ c.max.ensures.value) in
    record {
      by_latest = omega (arith, ints, next, earlier, was.by_latest);
      reached = reached_more asked c.requires.in_range.arrivals.is_phase c.args.arrival c.requires.arrival.0 c.requires.arrival.1 c.requires.arrives
          start may c.loop-start.longest c.max-longest.result width was.reached c.in_ok-width.ensures.0
          ends.by_deadline
          (elim either [ inl same_longest ↦ inl same_longest | inr left ↦ inr (ended start width c.args.arrival c.max-longest.result _ ends.left left) ]);
      longer = omega (arith, was.longer, more);
      answered = answered_further question arrival c.loop-start.longest c.max-longest.result width start (passed c.unwrap_or-start.result) (passed before) last
          was.answered c.in_ok-width.ensures.0 more
          (enough start width c.args.arrival arrival c.max-longest.result _ same ends.left at_least)
          next (none_after c.args.question.now _ c.last_release_before.result c.last_release_before.ensures);
    }

pub returns-else-may_be_longer : goal.returns-else-may_be_longer
returns-else-may_be_longer c =
    let question = c.args.question.now in
    let range = c.requires.in_range in
    let was = c.loop-start.invariant in
    let arrival = passed c.args.arrival in
    let start = to_z w64 c.loop-start.start-bits in
    let before = last_arrival question.arrivals (arrival -ℤ pos 1) in
    let here = answered_all_down (asked_of question) range.arrivals.is_phase c.loop-start.longest arrival before (itself before)
    (answered_by_widest question arrival c.args.self.now.widest range.beside.some_time c.requires.search.serves c.loop-start.longest start before
    (c.may_be_longer.ensures c.if-may_be_longer.false) was.answered) in (
      was.reached,
      was.longer,
      subst (λ a. is_answered (asked_of question) c.loop-start.longest a ≡ true) (passed_arrival question range c.args.arrival c.requires.arrival) here,
    )

pub returns-after-loop-start : goal.returns-after-loop-start
returns-after-loop-start c =
    let question = c.args.question.now in
    let range = c.requires.in_range in
    let was = c.loop-start.invariant in
    let arrival = passed c.args.arrival in
    let start = to_z w64 c.loop-start.start-bits in
    let before = c.last_arrival-before in
    let last : before.result ≡ last_arrival question.arrivals (arrival -ℤ pos 1) =
    before.ensures.last ∙ ap (last_arrival question.arrivals) (passed_before question range c.args.arrival c.requires.arrival) in
    let down : start ≤ℤ last_arrival question.arrivals (arrival -ℤ pos 1) = omega (arith, ints, last, before.type_inv, c.loop-start-test.false) in
    let here = answered_all_down (asked_of question) range.arrivals.is_phase c.loop-start.longest arrival start down was.answered in (
      was.reached,
      was.longer,
      subst (λ a. is_answered (asked_of question) c.loop-start.longest a ≡ true) (passed_arrival question range c.args.arrival c.requires.arrival) here,
    )
