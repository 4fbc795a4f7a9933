use Rattle.std.proofs.Common.{◌≡◌, pos, ℤ, ◌+ℤ◌, ◌≤ℤ◌, ◌<ℤ◌, eq-eqb, ap, sym, ◌∙◌, arith, to_z, of_z, w64}
use Rattle.std.proofs.lemmas.Int.{ints}
use Rattle.cl_stim.specs.Phase.{first_arrival}
use Rattle.cl_phase.specs.{TightBounds.ticks_or_none, Walked.lasts_from, Inner.Longest.{span_between, length_of_kind}}
use Rattle.cl_phase.proofs.{LongestWalks.phase_in_range, ShownStarts.{fails_where, lasts_as_found, search_begins, search_goes_on, search_finds, search_ends}}
use Rattle.cl_phase.proofs.walked.start_of_phase.Goals as goal

-- a number as code holds it
abbrev passed : ℤ → ℤ
passed z = to_z w64 (of_z w64 z)

pub loop-arrival-init : goal.loop-arrival-init
loop-arrival-init c =
    let phase = phase_in_range c.args.stops.now c.requires.stops c.args.place c.requires.place c.args.phase.now c.requires.phase in
    let first = c.first_arrival-arrival in
    let same : passed first.result ≡ first.result = omega (arith, ints, first.ensures.not_before, first.ensures.near) in
    search_begins c.args.kind c.args.stops.now (span_between c.args.ends) c.args.ends.write c.args.place c.args.phase.now phase.is_phase c.args.ticks c.args.bound (passed first.result)
    (same ∙ first.ensures.first) (omega (arith, ints, first.ensures.near, first.ensures.not_before))

pub returns-then-length_of-bound-clause-start : goal.returns-then-length_of-bound-clause-start
returns-then-length_of-bound-clause-start c =
    let phase = phase_in_range c.args.stops.now c.requires.stops c.args.place c.requires.place c.args.phase.now c.requires.phase in
    let stops = c.args.stops.now in
    let place = c.args.place in
    let here = to_z w64 c.loop-arrival.arrival-bits in
    let below : here <ℤ pos c.args.ticks = omega (arith, ints, c.loop-arrival-test.true, c.requires.few) in
    let long = ap (λ a. ticks_or_none (lasts_from c.args.kind stops (span_between c.args.ends) c.args.ends.write place a)) (sym c.loop-arrival.invariant.is)
    ∙ sym (c.length_of.ensures ∙ ap (length_of_kind c.args.kind) c.lengths_at.ensures ∙ lasts_as_found c.args.kind stops c.args.ends place here)
    ∙ c.if-length_of-bound.true in
    search_finds c.args.kind stops (span_between c.args.ends) c.args.ends.write place c.args.phase.now phase.is_phase c.args.ticks c.args.bound here c.loop-arrival.invariant below (eq-eqb _ _ long)

pub first_arrival-arrival-requires-in-loop-arrival-clause-phase : goal.first_arrival-arrival-requires-in-loop-arrival-clause-phase
first_arrival-arrival-requires-in-loop-arrival-clause-phase c =
    phase_in_range c.args.stops.now c.requires.stops c.args.place c.requires.place c.args.phase.now c.requires.phase

pub loop-arrival-preserved : goal.loop-arrival-preserved
loop-arrival-preserved c =
    let phase = phase_in_range c.args.stops.now c.requires.stops c.args.place c.requires.place c.args.phase.now c.requires.phase in
    let stops = c.args.stops.now in
    let place = c.args.place in
    let here = to_z w64 c.loop-arrival.arrival-bits in
    let next = c.first_arrival-arrival-in-loop-arrival in
    let is = c.loop-arrival.invariant.is in
    let near = c.loop-arrival.invariant.near in
    let below : here <ℤ pos c.args.ticks = omega (arith, ints, c.loop-arrival-test.true, c.requires.few) in
    let after : passed (here +ℤ pos 1) ≡ here +ℤ pos 1 = omega (arith, ints, is, near, c.requires.few) in
    let same : passed next.result ≡ next.result = omega (arith, ints, next.ensures.not_before, next.ensures.near, after, is, near, c.requires.few) in
    let long = ap (λ a. ticks_or_none (lasts_from c.args.kind stops (span_between c.args.ends) c.args.ends.write place a)) (sym is)
    ∙ sym (c.length_of.ensures ∙ ap (length_of_kind c.args.kind) c.lengths_at.ensures ∙ lasts_as_found c.args.kind stops c.args.ends place here) in
    search_goes_on c.args.kind stops (span_between c.args.ends) c.args.ends.write place c.args.phase.now phase.is_phase c.args.ticks c.args.bound here (passed next.result)
    c.loop-arrival.invariant below
    (fails_where _ _ (λ lasts_so. c.if-length_of-bound.false (sym long ∙ lasts_so)))
    (same ∙ next.ensures.first ∙ ap (first_arrival c.args.phase.now) after)
    (omega (arith, ints, same, next.ensures.near, after))

pub returns-clause-start : goal.returns-clause-start
returns-clause-start c =
    let phase = phase_in_range c.args.stops.now c.requires.stops c.args.place c.requires.place c.args.phase.now c.requires.phase in
    let here = to_z w64 c.loop-arrival.arrival-bits in
    let past : pos c.args.ticks ≤ℤ here = omega (arith, ints, c.loop-arrival-test.false, c.requires.few) in
    search_ends c.args.kind c.args.stops.now (span_between c.args.ends) c.args.ends.write c.args.place c.args.phase.now phase.is_phase c.args.ticks c.args.bound here c.loop-arrival.invariant past
