use Rattle.cl_resp.proofs.BusyWindowTask.{settled_finish}
use Rattle.cl_resp.proofs.laws.responses.settled_jobs_finish.Goals as goal

pub returns : goal.returns
returns c = settled_finish
