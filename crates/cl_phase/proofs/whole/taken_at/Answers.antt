use Rattle.std.proofs.Common.{◌≡◌, ◌-◌, ℤ, to_z, of_z, w64, ap, sym, ◌∙◌, arith}
use Rattle.std.proofs.lemmas.Int.{ints}
use Rattle.cl_phase.specs.{Pace.{previous, next}, Walks.{pace_at, onward, back}}
use Rattle.cl_phase.proofs.{WalkRanges.{pace_here, pace_in_range}, WholeWalks.{taken_onward, taken_before}}
use Rattle.cl_phase.proofs.whole.taken_at.Goals as goal

-- a number as code holds it
abbrev passed : ℤ → ℤ
passed z = to_z w64 (of_z w64 z)

pub next-requires-clause-pace : goal.next-requires-clause-pace
next-requires-clause-pace c = pace_in_range c.args.stops.now c.requires.stops c.args.group c.requires.group

pub returns-then-place-group-clause-takes : goal.returns-then-place-group-clause-takes
returns-then-place-group-clause-takes c =
    let stops = c.args.stops.now in
    let place = c.args.place in
    let group = c.args.group in
    let given : passed c.args.start ≡ c.args.start = omega (arith, ints, c.requires.start) in
    let same : passed c.arrival_onward.result ≡ c.arrival_onward.result = omega (arith, ints, c.arrival_onward.ensures.near) in
    same ∙ c.arrival_onward.ensures.leads ∙ ap (λ a. onward stops place a (group - place)) given
    ∙ sym (taken_onward stops place c.args.start group c.if-place-group.true)

pub returns-else-place-group-clause-takes : goal.returns-else-place-group-clause-takes
returns-else-place-group-clause-takes c =
    let stops = c.args.stops.now in
    let place = c.args.place in
    let group = c.args.group in
    let missed = c.arrival_back-missed in
    let after = c.next in
    let given : passed c.args.start ≡ c.args.start = omega (arith, ints, c.requires.start) in
    let at : passed missed.result ≡ missed.result = omega (arith, ints, missed.ensures.near) in
    let same : passed after.result ≡ after.result = omega (arith, ints, missed.ensures.near, after.ensures.not_before, after.ensures.near) in
    same ∙ after.ensures.after ∙ ap (λ pace. next pace (passed missed.result)) (pace_here stops c.requires.stops group c.requires.group)
    ∙ ap (next (pace_at stops group))
    (at ∙ missed.ensures.leads ∙ ap (λ a. back stops place (previous (pace_at stops place) a) (place - group)) given)
    ∙ sym (taken_before stops place c.args.start group (omega (arith, c.if-place-group.false)))
