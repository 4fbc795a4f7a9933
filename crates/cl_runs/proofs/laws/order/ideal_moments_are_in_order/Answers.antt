use Rattle.cl_runs.proofs.OrderedMoments.{ideal_in_order, ideal_has_read}
use Rattle.cl_runs.proofs.laws.order.ideal_moments_are_in_order.Goals as goal

pub returns-clause-order : goal.returns-clause-order
returns-clause-order c = ideal_in_order

pub returns-clause-read : goal.returns-clause-read
returns-clause-read c = ideal_has_read
