use Rattle.cl_lanes.proofs.GreatestGaps.{one_greatest}
use Rattle.cl_lanes.proofs.laws.one_greatest.Goals as goal

pub returns : goal.returns
returns c = one_greatest
