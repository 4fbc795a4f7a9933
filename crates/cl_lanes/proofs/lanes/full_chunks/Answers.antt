use Rattle.cl_lanes.proofs.Chunks.{are_chunks}
use Rattle.cl_lanes.proofs.lanes.full_chunks.Goals as goal

pub returns : goal.returns
returns c = are_chunks _ _ c.as_chunks.ensures.front c.as_chunks.ensures.front_len
