use Rattle.cl_resp.proofs.Windows.{demand_rises}
use Rattle.cl_resp.proofs.laws.windows.demand_never_falls.Goals as goal

pub returns : goal.returns
returns c = demand_rises
