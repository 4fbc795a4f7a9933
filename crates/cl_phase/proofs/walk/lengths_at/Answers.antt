use Rattle.std.proofs.Common.{◌≡◌, ◌-◌, length, ℤ, pos, ◌+ℤ◌, ◌-ℤ◌, ap, ◌∙◌, arith, to_z, of_z, w64}
use Rattle.std.proofs.lemmas.Int.{ints}
use Rattle.cl_model.specs.declared.limits.TheConstants.{MOST_TICKS}
use Rattle.cl_stim.specs.{Integers.IsIntegerWithin, Phase.IsMoment}
use Rattle.cl_phase.specs.{Pace.{previous, next}, Walks.{pace_at, arrival_at_first, arrival_at_last}, Inner.Longest.span_between}
use Rattle.cl_phase.proofs.{WalkRanges.{pace_here, pace_in_range}, LongestWalks.lengths_are}
use Rattle.cl_phase.proofs.walk.lengths_at.Goals as goal

-- a number as code holds it
abbrev passed : ℤ → ℤ
passed z = to_z w64 (of_z w64 z)

-- code adds two moments' distance and some ticks without a wrap
sum_is : (from to more ticks : ℤ) → IsMoment from → IsMoment to → IsIntegerWithin MOST_TICKS ticks → more ≡ ticks
    → passed (passed (passed to -ℤ passed from) +ℤ more) ≡ (to -ℤ from) +ℤ ticks
sum_is from to more ticks near near_to few is =
    let apart : passed (passed to -ℤ passed from) ≡ to -ℤ from = omega (arith, ints, near, near_to) in
    omega (arith, ints, near, near_to, few, is, apart)

pub previous-before-requires-clause-pace : goal.previous-before-requires-clause-pace
previous-before-requires-clause-pace c = pace_in_range c.args.stops.now c.requires.stops (length c.args.stops.now - 1) (omega (arith, c.requires.stops.some))

pub next-next-requires-clause-pace : goal.next-next-requires-clause-pace
next-next-requires-clause-pace c = pace_in_range c.args.stops.now c.requires.stops 0 (omega (arith, c.requires.stops.some))

pub overflow_add-before : goal.overflow_add-before
overflow_add-before c = omega (
  arith,
  ints,
  c.arrival_at_first-first.ensures.near,
  c.arrival_at_last-last.ensures.near,
  c.previous-before.ensures.not_after,
  c.previous-before.ensures.near,
  c.requires.ends.read,
  c.requires.ends.write,
)

pub overflow_add-last : goal.overflow_add-last
overflow_add-last c = omega (
  arith,
  ints,
  c.arrival_at_first-first.ensures.near,
  c.arrival_at_last-last.ensures.near,
  c.next-next.ensures.not_before,
  c.next-next.ensures.near,
  c.requires.ends.write,
)

pub returns : goal.returns
returns c =
    let stops = c.args.stops.now in
    let first = c.arrival_at_first-first in
    let last = c.arrival_at_last-last in
    let before = c.previous-before in
    let after = c.next-next in
    let read = c.requires.ends.read in
    let write = c.requires.ends.write in
    let same : passed c.args.arrival ≡ c.args.arrival = omega (arith, ints, c.requires.arrival) in
    let at_last : passed last.result ≡ last.result = omega (arith, ints, last.ensures.near) in
    let at_first : passed first.result ≡ first.result = omega (arith, ints, first.ensures.near) in
    let write_at = to_z w64 c.args.ends.write in
    let span = passed (write_at -ℤ to_z w64 c.args.ends.read) in
    let writes : write_at ≡ pos c.args.ends.write = omega (arith, ints, write) in
    let spans : span ≡ span_between c.args.ends = omega (arith, ints, write, read) in
    let spans_few : IsIntegerWithin MOST_TICKS (span_between c.args.ends) = (omega (arith, ints, write, read), omega (arith, ints, write, read)) in
    let here : IsMoment first.result = (omega (arith, ints, first.ensures.near), omega (arith, ints, first.ensures.near)) in
    let there : IsMoment last.result = (omega (arith, ints, last.ensures.near), omega (arith, ints, last.ensures.near)) in
    let earlier : IsMoment before.result = (
      omega (arith, ints, last.ensures.near, before.ensures.not_after, before.ensures.near),
      omega (arith, ints, last.ensures.near, before.ensures.not_after, before.ensures.near),
    ) in
    let later : IsMoment after.result = (
      omega (arith, ints, first.ensures.near, after.ensures.not_before, after.ensures.near),
      omega (arith, ints, first.ensures.near, after.ensures.not_before, after.ensures.near),
    ) in
    lengths_are stops c.args.ends c.args.place c.args.arrival first.result last.result before.result after.result
    {sum = passed (passed (passed last.result -ℤ passed first.result) +ℤ span)}
    {sum' = passed (passed (passed before.result -ℤ passed first.result) +ℤ span)}
    {sum'' = passed (passed (passed last.result -ℤ passed after.result) +ℤ write_at)}
    (first.ensures.leads ∙ ap (arrival_at_first stops c.args.place) same) (last.ensures.leads ∙ ap (arrival_at_last stops c.args.place) same)
    (before.ensures.before
    ∙ ap (λ pace. previous pace (passed last.result)) (pace_here stops c.requires.stops (length stops - 1) (omega (arith, c.requires.stops.some)))
    ∙ ap (previous (pace_at stops (length stops - 1))) at_last)
    (after.ensures.after ∙ ap (λ pace. next pace (passed first.result)) (pace_here stops c.requires.stops 0 c.requires.stops.some)
    ∙ ap (next (pace_at stops 0)) at_first)
    c.ticks_or_none.ensures c.ticks_or_none-2.ensures c.ticks_or_none-3.ensures
    (sum_is first.result last.result span (span_between c.args.ends) here there spans_few spans)
    (sum_is first.result before.result span (span_between c.args.ends) here earlier spans_few spans)
    (sum_is after.result last.result write_at (pos c.args.ends.write) later there (omega (arith, ints, write), omega (arith, ints, write)) writes)
