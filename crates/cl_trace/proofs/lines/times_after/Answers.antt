use Rattle.std.proofs.Common.{◌<◌, length, arith}
use Rattle.cl_trace.proofs.LineFacts.{fits_none, times_none, next_stands, fits_more, fits_all, times_more, before_more}
use Rattle.cl_trace.specs.declared.limits.TheConstants.{MOST_TRACE_NUMBER}
use Rattle.cl_trace.proofs.lines.times_after.Goals as goal

pub loop-init : goal.loop-init
loop-init c = rw c.new-times.ensures (times_none c.args.text.now, fits_none c.args.count c.args.text.now)

pub returns-in_default-clause-none : goal.returns-in_default-clause-none
returns-in_default-clause-none c = λ times rest are.
    let short : length c.loop.times < c.args.count = omega (arith, c.loop.invariant.0.size, c.loop-test.true) in
    let next = next_stands c.args.count c.args.text.now c.loop.times c.loop.left.now c.loop.invariant.1 times rest short are in
    before_more (λ k tail. ⊥) MOST_TRACE_NUMBER c.loop.left.now c.in_default.ensures.only next.0 next.1 rest next.4 next.3

pub loop-preserved : goal.loop-preserved
loop-preserved c =
    let short : length c.loop.times < c.args.count = omega (arith, c.loop.invariant.0.size, c.loop-test.true) in
    rw c.in_ok-push.ensures.ok (
      times_more c.loop.counter c.args.text.now c.loop.times c.loop.left.now c.in-Some.rest.now c.in-Some.time c.loop.invariant.0 c.in-Some.ensures.some.1 c.in-Some.ensures.some.0,
      fits_more c.args.count c.args.text.now c.loop.times c.loop.left.now c.loop.invariant.1 c.in-Some.time c.in-Some.rest.now short c.in-Some.ensures.only,
    )

pub returns-clause-some : goal.returns-clause-some
returns-clause-some c = record {
  size = omega (arith, c.loop.invariant.0.size, c.loop-test.false, c.loop.auto.counter-end);
  in_range = c.loop.invariant.0.in_range;
  parts = c.loop.invariant.0.parts;
}

pub returns-clause-only : goal.returns-clause-only
returns-clause-only c = λ times rest are.
    fits_all c.args.count c.args.text.now c.loop.times c.loop.left.now c.loop.invariant.1 (omega (arith, c.loop.invariant.0.size, c.loop-test.false)) times rest are
