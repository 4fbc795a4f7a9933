use Rattle.std.proofs.Common.{arith, rules}
use Rattle.std.proofs.lemmas.List.{get_or_default}
use Rattle.cl_check.proofs.in_order.takes_time.Goals as goal

pub returns : goal.returns
returns c = (
  λ is k d within. omega (
    arith,
    within,
    c.loop-time.invariant k (omega (arith, within, c.loop-time-test.false)),
    get_or_default c.args.times.now k d 0 within,
  ),
  λ all. search rules,
)
