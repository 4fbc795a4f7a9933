use Rattle.std.proofs.Common.{◌≡◌, pos, ◌+ℤ◌, ◌≤ℤ◌, ◌<ℤ◌, to_z, w64, sym, ap, ◌∙◌, arith}
use Rattle.std.proofs.lemmas.Int.{ints}
use Rattle.cl_stim.specs.Phase.{first_arrival}
use Rattle.cl_resp.specs.Inner.Phased.{asked_of}
use Rattle.cl_resp.proofs.{SearchedStarts.none_is_least, SearchedArrivals.{passed, none_reached, none_answered, first_passes, one_more_answered, all_answered, suffices_first}}
use Rattle.cl_resp.proofs.by_phase.Search.answer_all.Goals as goal

pub loop-arrival-init : goal.loop-arrival-init
loop-arrival-init c =
    let asked = asked_of c.args.question.now in
    let is = c.requires.in_range.arrivals.is_phase in
    let found = c.first_arrival-arrival in
    let same : passed found.result ≡ found.result = omega (arith, ints, found.ensures.not_before, found.ensures.near) in
    let first : passed found.result ≡ first_arrival c.args.question.now.arrivals (pos 0) = same ∙ found.ensures.first in
    record {
      there = omega (arith, ints, same, found.ensures.not_before);
      near = omega (arith, ints, same, found.ensures.near);
      arrives = first_passes asked is (pos 0) (passed found.result) first;
      reached = none_reached asked;
      answered = none_answered asked is 0 (passed found.result) first;
    }

pub answer-requires-clause-arrival : goal.answer-requires-clause-arrival
answer-requires-clause-arrival c =
    (c.loop-arrival.invariant.there, omega (arith, ints, c.requires.in_range.short, c.loop-arrival-test.true))

pub answer-requires-clause-arrives : goal.answer-requires-clause-arrives
answer-requires-clause-arrives c = c.loop-arrival.invariant.arrives

pub answer-requires-clause-so_far : goal.answer-requires-clause-so_far
answer-requires-clause-so_far c = c.loop-arrival.invariant.reached

pub returns-in_err-longest : goal.returns-in_err-longest
returns-in_err-longest c = c.from_residual.ensures ∙ sym (none_is_least (asked_of c.args.question.now) c.in_err-longest.ensures)

pub first_arrival-arrival-requires-in-loop-arrival-clause-moment :
    goal.first_arrival-arrival-requires-in-loop-arrival-clause-moment
first_arrival-arrival-requires-in-loop-arrival-clause-moment c =
    let was = c.loop-arrival.invariant in
    (omega (arith, ints, was.there, was.near, c.requires.in_range.short), omega (arith, ints, was.there, was.near, c.requires.in_range.short))

pub loop-arrival-smaller : goal.loop-arrival-smaller
loop-arrival-smaller c =
    let was = c.loop-arrival.invariant in
    let here = to_z w64 c.loop-arrival.arrival-bits in
    let next = c.first_arrival-arrival-in-loop-arrival in
    let after : passed (here +ℤ pos 1) ≡ here +ℤ pos 1 = omega (arith, ints, was.there, was.near, c.requires.in_range.short) in
    let same : passed next.result ≡ next.result = omega (arith, ints, next.ensures.not_before, next.ensures.near, after, was.there, was.near, c.requires.in_range.short) in
    let below : here <ℤ pos c.args.question.now.cycle = omega (arith, ints, c.requires.in_range.short, c.loop-arrival-test.true) in
    omega (arith, ints, same, after, next.ensures.not_before, below, was.there)

pub loop-arrival-preserved : goal.loop-arrival-preserved
loop-arrival-preserved c =
    let question = c.args.question.now in
    let asked = asked_of question in
    let is = c.requires.in_range.arrivals.is_phase in
    let was = c.loop-arrival.invariant in
    let here = to_z w64 c.loop-arrival.arrival-bits in
    let next = c.first_arrival-arrival-in-loop-arrival in
    let after : passed (here +ℤ pos 1) ≡ here +ℤ pos 1 = omega (arith, ints, was.there, was.near, c.requires.in_range.short) in
    let same : passed next.result ≡ next.result = omega (arith, ints, next.ensures.not_before, next.ensures.near, after, was.there, was.near, c.requires.in_range.short) in
    let below : here <ℤ pos question.cycle = omega (arith, ints, c.requires.in_range.short, c.loop-arrival-test.true) in
    let first : passed next.result ≡ first_arrival question.arrivals (here +ℤ pos 1) = same ∙ next.ensures.first ∙ ap (first_arrival question.arrivals) after in
    let answer = c.in_ok-longest.ensures in
    record {
      there = omega (arith, ints, same, after, next.ensures.not_before, was.there);
      near = omega (arith, ints, same, after, next.ensures.near, below);
      arrives = first_passes asked is (here +ℤ pos 1) (passed next.result) first;
      reached = answer.0;
      answered = one_more_answered asked is c.loop-arrival.longest c.in_ok-longest.longest here (passed next.result) answer.1 was.answered answer.2 first;
    }

pub returns-else-not-is_done : goal.returns-else-not-is_done
returns-else-not-is_done c =
    let range = c.requires.in_range in
    sym (suffices_first (asked_of c.args.question.now) range.arrivals.is_phase range.comes_round range.some c.loop-arrival.longest
    c.loop-arrival.invariant.reached (c.is_done.ensures c.if-not-is_done.false))

pub returns-after-loop-arrival : goal.returns-after-loop-arrival
returns-after-loop-arrival c =
    let range = c.requires.in_range in
    let asked = asked_of c.args.question.now in
    let was = c.loop-arrival.invariant in
    let past : pos c.args.question.now.cycle ≤ℤ to_z w64 c.loop-arrival.arrival-bits = omega (arith, ints, range.short, c.loop-arrival-test.false) in
    sym (suffices_first asked range.arrivals.is_phase range.comes_round range.some c.loop-arrival.longest was.reached
    (all_answered asked range.arrivals.is_phase c.loop-arrival.longest (to_z w64 c.loop-arrival.arrival-bits) past was.answered))
