use Rattle.std.proofs.Common.{arith}
use Rattle.cl_lanes.proofs.FirstPlaces.{without_more, first_in_chunk}
use Rattle.cl_lanes.proofs.first.first_in_chunks.Goals as goal

pub returns-in-Some : goal.returns-in-Some
returns-in-Some c =
    first_in_chunk _ _ _ _ _ _ _ c.full_chunks-end_chunks.ensures c.full_chunks-start_chunks.ensures
    c.requires.as_many c.loop-i-test.true c.loop-i.invariant c.in-Some.ensures

pub loop-i-preserved : goal.loop-i-preserved
loop-i-preserved c =
    without_more _ _ _ _ _ 8 _ c.full_chunks-end_chunks.ensures c.full_chunks-start_chunks.ensures
    c.requires.as_many c.loop-i-test.true (omega arith) c.loop-i.invariant c.in_default.ensures _ (omega arith)
