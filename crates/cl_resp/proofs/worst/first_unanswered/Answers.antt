use Rattle.std.proofs.Common.{◌≡◌, pos, ◌+ℤ◌, ◌≤ℤ◌, ◌<ℤ◌, to_z, w64, sym, ap, ◌∙◌, subst, arith}
use Rattle.std.proofs.lemmas.Int.{ints, clamps}
use Rattle.cl_stim.specs.Phase.{IsArrivalOf, first_arrival}
use Rattle.cl_stim.proofs.PhaseSteps.{first_arrives}
use Rattle.cl_resp.specs.{Worst.IsFirstUnanswered, Inner.{Phased.asked_of, Worst.AreAnsweredBefore}}
use Rattle.cl_resp.proofs.{WorstPlaces.held, WorstBeginnings.{answered_before_first, answered_before_next, all_suffices, first_is}}
use Rattle.cl_resp.proofs.worst.first_unanswered.Goals as goal

pub loop-arrival-init : goal.loop-arrival-init
loop-arrival-init c =
    let asked = asked_of c.args.question.now in
    let is = c.requires.in_range.arrivals.is_phase in
    let found = c.first_arrival-arrival in
    let same : held found.result ≡ found.result = omega (arith, ints, found.ensures.not_before, found.ensures.near) in
    let first : held found.result ≡ first_arrival c.args.question.now.arrivals (pos 0) = same ∙ found.ensures.first in
    record {
      not_before = omega (arith, ints, same, found.ensures.not_before);
      near = omega (arith, ints, same, found.ensures.near);
      arrives = subst (IsArrivalOf asked.arrivals) (sym first) (first_arrives asked.arrivals is (pos 0));
      answered = subst (AreAnsweredBefore asked c.args.within) (sym first) (answered_before_first asked is c.args.within);
    }

pub latest_unanswered-requires-clause-not_before : goal.latest_unanswered-requires-clause-not_before
latest_unanswered-requires-clause-not_before c = c.loop-arrival.invariant.not_before

pub latest_unanswered-requires-clause-in_cycle : goal.latest_unanswered-requires-clause-in_cycle
latest_unanswered-requires-clause-in_cycle c = omega (arith, ints, c.requires.in_range.short, c.loop-arrival-test.true)

pub returns-in-Some : goal.returns-in-Some
returns-in-Some c =
    let was = c.loop-arrival.invariant in
    let here = to_z w64 c.loop-arrival.arrival-bits in
    let below : here <ℤ pos c.args.question.now.cycle = omega (arith, ints, c.requires.in_range.short, c.loop-arrival-test.true) in
    let same : held c.in-Some.start ≡ c.in-Some.start = omega (arith, ints) in
    subst (λ s. IsFirstUnanswered (asked_of c.args.question.now) c.args.within (record { arrival = here; start = s })) (sym same)
    (first_is (asked_of c.args.question.now) c.args.within here c.in-Some.start was.not_before below was.arrives was.answered c.in-Some.ensures)

pub first_arrival-arrival-requires-in-loop-arrival-clause-moment :
    goal.first_arrival-arrival-requires-in-loop-arrival-clause-moment
first_arrival-arrival-requires-in-loop-arrival-clause-moment c =
    let was = c.loop-arrival.invariant in
    (omega (arith, ints, was.not_before, was.near, c.requires.in_range.short), omega (arith, ints, was.not_before, was.near, c.requires.in_range.short))

pub loop-arrival-smaller : goal.loop-arrival-smaller
loop-arrival-smaller c =
    let was = c.loop-arrival.invariant in
    let here = to_z w64 c.loop-arrival.arrival-bits in
    let next = c.first_arrival-arrival-in-loop-arrival in
    let after : held (here +ℤ pos 1) ≡ here +ℤ pos 1 = omega (arith, ints, was.not_before, was.near, c.requires.in_range.short) in
    let same : held next.result ≡ next.result = omega (arith, ints, next.ensures.not_before, next.ensures.near, after, was.not_before, was.near, c.requires.in_range.short) in
    let below : here <ℤ pos c.args.question.now.cycle = omega (arith, ints, c.requires.in_range.short, c.loop-arrival-test.true) in
    omega (arith, ints, clamps, same, after, next.ensures.not_before, below, was.not_before)

pub loop-arrival-preserved : goal.loop-arrival-preserved
loop-arrival-preserved c =
    let question = c.args.question.now in
    let asked = asked_of question in
    let is = c.requires.in_range.arrivals.is_phase in
    let was = c.loop-arrival.invariant in
    let here = to_z w64 c.loop-arrival.arrival-bits in
    let next = c.first_arrival-arrival-in-loop-arrival in
    let after : held (here +ℤ pos 1) ≡ here +ℤ pos 1 = omega (arith, ints, was.not_before, was.near, c.requires.in_range.short) in
    let same : held next.result ≡ next.result = omega (arith, ints, next.ensures.not_before, next.ensures.near, after, was.not_before, was.near, c.requires.in_range.short) in
    let below : here <ℤ pos question.cycle = omega (arith, ints, c.requires.in_range.short, c.loop-arrival-test.true) in
    let first : held next.result ≡ first_arrival question.arrivals (here +ℤ pos 1) = same ∙ next.ensures.first ∙ ap (first_arrival question.arrivals) after in
    record {
      not_before = omega (arith, ints, same, after, next.ensures.not_before, was.not_before);
      near = omega (arith, ints, same, after, next.ensures.near, below);
      arrives = subst (IsArrivalOf asked.arrivals) (sym first) (first_arrives asked.arrivals is (here +ℤ pos 1));
      answered = subst (AreAnsweredBefore asked c.args.within) (sym first)
          (answered_before_next asked is c.args.within here was.answered c.in_default.ensures);
    }

pub returns : goal.returns
returns c =
    let past : pos c.args.question.now.cycle ≤ℤ to_z w64 c.loop-arrival.arrival-bits = omega (arith, ints, c.requires.in_range.short, c.loop-arrival-test.false) in
    all_suffices (asked_of c.args.question.now) c.requires.in_range.arrivals.is_phase c.args.within _ past c.loop-arrival.invariant.answered
