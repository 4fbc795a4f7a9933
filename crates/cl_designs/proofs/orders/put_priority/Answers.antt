use Rattle.std.proofs.Common.{rules}
use Rattle.std.proofs.lemmas.List.{append_assoc}
use Rattle.std.proofs.lemmas.Result.{IfOk-equal}
use Rattle.cl_designs.specs.Orders.{priority_line}
use Rattle.cl_designs.proofs.orders.put_priority.Goals as goal

pub returns : goal.returns
unfolding priority_line
returns c = search (rules, IfOk-equal, append_assoc)
