use Rattle.std.proofs.Common.{ap, sym, ◌∙◌, arith}
use Rattle.cl_phase.specs.{Walks.pace_at, Inner.Keeping.arrives_seldom}
use Rattle.cl_phase.proofs.{WalkRanges.pace_here, SlowestGroups.{few_arrivals, slowest_at, none_slowest}}
use Rattle.cl_phase.proofs.keeping.Keeping.slowest.Goals as goal

pub returns-then-is_slowest-clause-slowest : goal.returns-then-is_slowest-clause-slowest
returns-then-is_slowest-clause-slowest c =
    let stops = c.args.stops.now in
    let keeping = c.args.self.now in
    slowest_at stops keeping c.requires.kept
    (λ place within. few_arrivals keeping.hyperperiod c.requires.kept.short (pace_at stops place) (c.requires.stops.paces place within))
    c.loop-place.place c.loop-place-test.true c.loop-place.invariant
    (ap (arrives_seldom keeping.hyperperiod keeping.fewest) (sym (pace_here stops c.requires.stops c.loop-place.place c.loop-place-test.true))
    ∙ sym c.is_slowest.ensures ∙ c.if-is_slowest.true)

pub returns-clause-slowest : goal.returns-clause-slowest
returns-clause-slowest c =
    let stops = c.args.stops.now in
    let keeping = c.args.self.now in
    none_slowest stops keeping c.requires.kept
    (λ place within. few_arrivals keeping.hyperperiod c.requires.kept.short (pace_at stops place) (c.requires.stops.paces place within))
    (λ before below. c.loop-place.invariant before (omega (arith, below, c.loop-place-test.false)))
