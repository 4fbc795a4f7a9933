use Rattle.std.proofs.Common.{arith}
use Rattle.cl_lanes.proofs.GreatestLanes.{length-chunk_gaps, chunk_gap, more_lanes}
use Rattle.cl_lanes.proofs.greatest.greatest_by_lane.Goals as goal

pub loop-i-preserved : goal.loop-i-preserved
loop-i-preserved c =
    let ends = c.full_chunks-end_chunks.ensures in
    let starts = c.full_chunks-start_chunks.ensures in
    let paired = c.requires.paired in
    let below = c.loop-i-test.true in
    let are = c.lane_gaps.ensures in
    more_lanes _ _ _ c.loop-i.greatest c.lane_gaps.result (omega (arith, ends.as_many)) (length-chunk_gaps _ _ _ _ _ _ ends starts paired below are)
    (chunk_gap _ _ _ _ _ _ ends starts paired below are) c.loop-i.invariant
