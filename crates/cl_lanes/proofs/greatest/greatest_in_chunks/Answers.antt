use Rattle.std.proofs.Common.{arith, below_more}
use Rattle.cl_lanes.proofs.GreatestGaps.{above_chunks, greater_gap}
use Rattle.cl_lanes.proofs.greatest.greatest_in_chunks.Goals as goal

pub loop-lane-preserved : goal.loop-lane-preserved
loop-lane-preserved c =
    let lanes = c.greatest_by_lane-lane-items.ensures in
    let this = lanes.gaps c.loop-lane.lane-index (omega (arith, c.loop-lane-test.true, lanes.eight)) in
    record {
      one_of = greater_gap _ _ _ _ _ c.max-greatest.ensures c.loop-lane.invariant.one_of this;
      above = below_more _ _ (λ k below. omega (arith, c.loop-lane.invariant.above k below)) (omega arith);
    }

pub returns-clause-above : goal.returns-clause-above
returns-clause-above c =
    above_chunks _ _ _ _ c.greatest_by_lane-lane-items.ensures (λ k low. c.loop-lane.invariant.above k (omega (arith, c.loop-lane-test.false)))
