use Rattle.cl_resp.proofs.ClearMoments.{needed_within}
use Rattle.cl_resp.proofs.laws.clear.windows_need_at_most_the_demand.Goals as goal

pub returns : goal.returns
returns c = needed_within
