use Rattle.cl_tune.proofs.OneOrder.{some_order_answer, one_order_answer}
use Rattle.cl_tune.proofs.laws.orders_are_unique.Goals as goal

pub returns-clause-some : goal.returns-clause-some
returns-clause-some c = some_order_answer

pub returns-clause-one : goal.returns-clause-one
returns-clause-one c = one_order_answer
