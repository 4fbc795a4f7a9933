use Rattle.cl_lanes.proofs.LaneLemmas.{lanes_in_order}
use Rattle.cl_lanes.proofs.lanes.lane_gaps.Goals as goal

pub overflow_sub-result : goal.overflow_sub-result
overflow_sub-result c = lanes_in_order _ _ c.requires.as_many c.requires.in_order
