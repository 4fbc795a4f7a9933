use Rattle.cl_runs.proofs.Holding.{one_held}
use Rattle.cl_runs.proofs.laws.held.one_task_is_held.Goals as goal

pub returns : goal.returns
returns c = one_held
