use Rattle.cl_check.proofs.JobsInOrder.{legal_in_order}
use Rattle.cl_check.proofs.laws.legal_runs_are_in_order.Goals as goal

pub returns : goal.returns
returns c = legal_in_order
