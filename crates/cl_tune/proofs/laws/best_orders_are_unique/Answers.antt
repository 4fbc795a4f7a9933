use Rattle.cl_tune.proofs.OneOrder.{one_best_order}
use Rattle.cl_tune.proofs.laws.best_orders_are_unique.Goals as goal

pub returns : goal.returns
returns c = one_best_order
