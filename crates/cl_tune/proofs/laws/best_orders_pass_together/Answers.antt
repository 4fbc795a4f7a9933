use Rattle.cl_tune.proofs.OrdersTogether.{pass_together}
use Rattle.cl_tune.proofs.laws.best_orders_pass_together.Goals as goal

pub returns : goal.returns
returns c = pass_together
