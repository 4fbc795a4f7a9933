use Rattle.std.proofs.Common.{◌≡◌, ◌-◌, ℤ, to_z, of_z, w64, ap, sym, ◌∙◌, arith}
use Rattle.std.proofs.lemmas.Int.{ints}
use Rattle.cl_phase.specs.{Pace.previous, Walks.{pace_at, onward, back}}
use Rattle.cl_phase.proofs.{WalkRanges.{pace_here, pace_in_range}, WholeWalks.{missed_back, missed_behind}}
use Rattle.cl_phase.proofs.whole.missed_at.Goals as goal

-- a number as code holds it
abbrev passed : ℤ → ℤ
passed z = to_z w64 (of_z w64 z)

pub previous-requires-clause-pace : goal.previous-requires-clause-pace
previous-requires-clause-pace c = pace_in_range c.args.stops.now c.requires.stops c.args.group c.requires.group

pub returns-then-group-place-clause-misses : goal.returns-then-group-place-clause-misses
returns-then-group-place-clause-misses c =
    let stops = c.args.stops.now in
    let place = c.args.place in
    let group = c.args.group in
    let given : passed c.args.start ≡ c.args.start = omega (arith, ints, c.requires.start) in
    let same : passed c.arrival_back.result ≡ c.arrival_back.result = omega (arith, ints, c.arrival_back.ensures.near) in
    same ∙ c.arrival_back.ensures.leads ∙ ap (λ a. back stops place (previous (pace_at stops place) a) (place - group)) given
    ∙ sym (missed_back stops place c.args.start group c.if-group-place.true)

pub returns-else-group-place-clause-misses : goal.returns-else-group-place-clause-misses
returns-else-group-place-clause-misses c =
    let stops = c.args.stops.now in
    let place = c.args.place in
    let group = c.args.group in
    let taken = c.arrival_onward-taken in
    let before = c.previous in
    let given : passed c.args.start ≡ c.args.start = omega (arith, ints, c.requires.start) in
    let at : passed taken.result ≡ taken.result = omega (arith, ints, taken.ensures.near) in
    let same : passed before.result ≡ before.result = omega (arith, ints, taken.ensures.near, before.ensures.not_after, before.ensures.near) in
    same ∙ before.ensures.before ∙ ap (λ pace. previous pace (passed taken.result)) (pace_here stops c.requires.stops group c.requires.group)
    ∙ ap (previous (pace_at stops group)) (at ∙ taken.ensures.leads ∙ ap (λ a. onward stops place a (group - place)) given)
    ∙ sym (missed_behind stops place c.args.start group (omega (arith, c.if-group-place.false)))
