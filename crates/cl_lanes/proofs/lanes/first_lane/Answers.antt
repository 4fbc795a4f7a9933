use Rattle.cl_lanes.proofs.LaneLemmas.{no_lane, lowest_lane}
use Rattle.cl_lanes.proofs.lanes.first_lane.Goals as goal

pub returns-then-found-eq0 : goal.returns-then-found-eq0
returns-then-found-eq0 c = no_lane _ _ c.lane_gaps.result c.args.gap c.lane_gaps.ensures c.requires c.told-ends c.if-found-eq0.true

pub returns-else-found-eq0 : goal.returns-else-found-eq0
returns-else-found-eq0 c = lowest_lane _ _ c.lane_gaps.result c.args.gap c.lane_gaps.ensures c.requires c.told-ends c.if-found-eq0.false
