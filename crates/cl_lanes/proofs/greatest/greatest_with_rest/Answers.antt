use Rattle.std.proofs.Common.{arith, below_more}
use Rattle.cl_lanes.proofs.GreatestGaps.{greater_gap}
use Rattle.cl_lanes.proofs.greatest.greatest_with_rest.Goals as goal

pub loop-i-preserved : goal.loop-i-preserved
loop-i-preserved c =
    let within = c.loop-i-test.true in
    let ordered = c.requires.paired.in_order c.loop-i.i within in
    record {
      one_of = greater_gap _ _ _ _ _ c.max-greatest.ensures c.loop-i.invariant.one_of (c.loop-i.i, within, omega arith);
      above = below_more _ _ (λ k below. omega (arith, c.loop-i.invariant.above k below)) (omega arith);
    }
