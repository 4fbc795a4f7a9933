use Rattle.cl_resp.proofs.BusyWindowTask.{settled_timely, tightly_timely}
use Rattle.cl_resp.proofs.laws.responses.settled_tasks_are_timely.Goals as goal

pub returns-clause-plain : goal.returns-clause-plain
returns-clause-plain c = settled_timely

pub returns-clause-tight : goal.returns-clause-tight
returns-clause-tight c = tightly_timely
