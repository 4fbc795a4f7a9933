use Rattle.std.proofs.Common.{◌≡◌, ◌≤◌, ℤ, pos, ◌+ℤ◌, ◌-ℤ◌, ◌≤ℤ◌, ◌<ℤ◌, to_z, w64, sym, ap, ◌∙◌, subst, arith}
use Rattle.std.specs.Prelude.{unwrap_or}
use Rattle.std.proofs.lemmas.Int.{ints}
use Rattle.cl_stim.specs.{Integers.IsIntegerWithin, Phase.last_arrival}
use Rattle.cl_resp.specs.{Asked.{MayBegin, EndsBy}, Worst.NoneEndsBy, Inner.Phased.asked_of}
use Rattle.cl_resp.proofs.{WorstPlaces.{held, held_arrival, held_before, near_it, begins_there, falls_back, way_falls}, WorstRanges.{start_within, latest_held, latest_within, latest_near}, WorstBeginnings.{latest_is, answered_after_next}}
use Rattle.cl_resp.proofs.worst.latest_unanswered.Goals as goal

pub loop-start-init : goal.loop-start-init
loop-start-init c =
    let range = c.requires.in_range in
    let jitter : c.args.question.now.beside.jitter ≤ 1000000000000 = omega (arith, range.beside.released_before, range.beside.deadline) in
    let same = held_arrival c.args.question.now range c.args.arrival c.requires.not_before c.requires.in_cycle in
    record {
      by_latest = omega (arith, ints, same, c.requires.not_before, c.requires.in_cycle, range.short, jitter);
      answered = λ other after may. absurd (omega (arith, ints, same, c.requires.not_before, c.requires.in_cycle, range.short, jitter, after, may.by));
    }

pub is_late-requires-clause-start : goal.is_late-requires-clause-start
is_late-requires-clause-start c =
    start_within c.args.question.now c.args.arrival (to_z w64 c.loop-start.start-bits)
    (near_it c.args.question.now c.requires.in_range c.args.arrival c.requires.not_before c.requires.in_cycle (to_z w64 c.loop-start.start-bits) c.last_arrival-before.result
    c.last_arrival-before.ensures.not_after c.last_arrival-before.ensures.near c.loop-start-test.true c.loop-start.invariant.by_latest)

pub is_late-requires-clause-latest : goal.is_late-requires-clause-latest
is_late-requires-clause-latest c =
    let near = near_it c.args.question.now c.requires.in_range c.args.arrival c.requires.not_before c.requires.in_cycle (to_z w64 c.loop-start.start-bits) c.last_arrival-before.result
    c.last_arrival-before.ensures.not_after c.last_arrival-before.ensures.near c.loop-start-test.true c.loop-start.invariant.by_latest in
    let here = to_z w64 c.loop-start.start-bits in
    subst (λ z. IsIntegerWithin 30000000000000000 z) (sym (latest_held c.args.question.now c.args.arrival here near c.args.within c.requires.within))
    (latest_within c.args.question.now c.args.arrival here near c.args.within c.requires.within)

pub is_late-requires-clause-near : goal.is_late-requires-clause-near
is_late-requires-clause-near c =
    let near = near_it c.args.question.now c.requires.in_range c.args.arrival c.requires.not_before c.requires.in_cycle (to_z w64 c.loop-start.start-bits) c.last_arrival-before.result
    c.last_arrival-before.ensures.not_after c.last_arrival-before.ensures.near c.loop-start-test.true c.loop-start.invariant.by_latest in
    let here = to_z w64 c.loop-start.start-bits in
    subst (λ z. z ≤ℤ (here +ℤ pos 2000000000000)) (sym (latest_held c.args.question.now c.args.arrival here near c.args.within c.requires.within))
    (latest_near c.args.question.now c.args.arrival here near c.args.within c.requires.within)

pub returns-then-is_late : goal.returns-then-is_late
returns-then-is_late c =
    let question = c.args.question.now in
    let asked = asked_of question in
    let start = to_z w64 c.loop-start.start-bits in
    let before = c.last_arrival-before in
    let near = near_it question c.requires.in_range c.args.arrival c.requires.not_before c.requires.in_cycle start before.result
    before.ensures.not_after before.ensures.near c.loop-start-test.true c.loop-start.invariant.by_latest in
    let may = begins_there question c.requires.in_range c.args.arrival c.requires.not_before c.requires.in_cycle start before.result
    before.ensures.not_after before.ensures.near c.loop-start-test.true c.loop-start.invariant.by_latest before.ensures.last in
    let same = held_arrival question c.requires.in_range c.args.arrival c.requires.not_before c.requires.in_cycle in
    latest_is asked c.args.within c.args.arrival start may
    (subst (λ z. NoneEndsBy asked start z) (latest_held question c.args.arrival start near c.args.within c.requires.within)
    (c.is_late.ensures.late c.if-is_late.true))
    (subst (λ a. (other : ℤ) → start <ℤ other → MayBegin asked a other → EndsBy asked other (a +ℤ pos c.args.within)) same c.loop-start.invariant.answered)

pub last_release_before-requires-clause-start : goal.last_release_before-requires-clause-start
last_release_before-requires-clause-start c =
    start_within c.args.question.now c.args.arrival (to_z w64 c.loop-start.start-bits)
    (near_it c.args.question.now c.requires.in_range c.args.arrival c.requires.not_before c.requires.in_cycle (to_z w64 c.loop-start.start-bits) c.last_arrival-before.result
    c.last_arrival-before.ensures.not_after c.last_arrival-before.ensures.near c.loop-start-test.true c.loop-start.invariant.by_latest)

pub loop-start-smaller : goal.loop-start-smaller
loop-start-smaller c =
    let start = to_z w64 c.loop-start.start-bits in
    let before = c.last_arrival-before.result in
    let test : held before <ℤ start = omega (arith, ints, c.loop-start-test.true) in
    let earlier = falls_back c.args.question.now c.last_release_before.result start (held before) c.last_release_before.ensures test in
    let less : held c.unwrap_or-start.result <ℤ start = omega (arith, ints, c.unwrap_or-start.type_inv, c.unwrap_or-start.ensures, earlier) in
    way_falls (held c.unwrap_or-start.result) start (held before) less test

pub loop-start-preserved : goal.loop-start-preserved
loop-start-preserved c =
    let question = c.args.question.now in
    let asked = asked_of question in
    let start = to_z w64 c.loop-start.start-bits in
    let before = c.last_arrival-before in
    let arrival = held c.args.arrival in
    let last = c.last_release_before.result in
    let near = near_it question c.requires.in_range c.args.arrival c.requires.not_before c.requires.in_cycle start before.result
    before.ensures.not_after before.ensures.near c.loop-start-test.true c.loop-start.invariant.by_latest in
    let same = held_arrival question c.requires.in_range c.args.arrival c.requires.not_before c.requires.in_cycle in
    let test : held before.result <ℤ start = omega (arith, ints, c.loop-start-test.true) in
    let earlier = falls_back question last start (held before.result) c.last_release_before.ensures test in
    let next : held c.unwrap_or-start.result ≡ unwrap_or last (held before.result) = omega (arith, ints, c.unwrap_or-start.type_inv, c.unwrap_or-start.ensures) in
    record {
      by_latest = omega (arith, ints, next, earlier, c.loop-start.invariant.by_latest);
      answered = subst (λ from. (other : ℤ) → from <ℤ other → MayBegin asked arrival other → EndsBy asked other (arrival +ℤ pos c.args.within)) (sym next)
          (answered_after_next question c.args.within arrival start (held before.result) last c.last_release_before.ensures
          (subst (λ a. EndsBy asked start (a +ℤ pos c.args.within)) (sym same)
          (subst (λ z. EndsBy asked start z) (latest_held question c.args.arrival start near c.args.within c.requires.within)
          (c.is_late.ensures.ends c.if-is_late.false)))
          c.loop-start.invariant.answered);
    }

pub returns : goal.returns
returns c start may =
    let question = c.args.question.now in
    let asked = asked_of question in
    let range = c.requires.in_range in
    let before = c.last_arrival-before in
    let same = held_arrival question range c.args.arrival c.requires.not_before c.requires.in_cycle in
    let last : before.result ≡ last_arrival question.arrivals (c.args.arrival -ℤ pos 1) =
    before.ensures.last ∙ ap (last_arrival question.arrivals) (held_before question range c.args.arrival c.requires.not_before c.requires.in_cycle) in
    let after : to_z w64 c.loop-start.start-bits <ℤ start = omega (arith, ints, last, before.type_inv, c.loop-start-test.false, may.after) in
    subst (λ a. EndsBy asked start (a +ℤ pos c.args.within)) same
    (c.loop-start.invariant.answered start after (subst (λ a. MayBegin asked a start) (sym same) may))
