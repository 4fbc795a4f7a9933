use Rattle.cl_runs.proofs.OrderedMoments.{run_in_order, run_has_read}
use Rattle.cl_runs.proofs.laws.order.run_moments_are_in_order.Goals as goal

pub returns-clause-order : goal.returns-clause-order
returns-clause-order c = run_in_order

pub returns-clause-read : goal.returns-clause-read
returns-clause-read c = run_has_read
