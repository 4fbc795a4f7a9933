use Rattle.std.proofs.Common.{rules}
use Rattle.std.proofs.lemmas.List.{append_assoc}
use Rattle.std.proofs.lemmas.Result.{IfOk-equal}
use Rattle.cl_designs.specs.Orders.{none_line}
use Rattle.cl_designs.proofs.orders.put_none.Goals as goal

pub returns : goal.returns
unfolding none_line
returns c = search (rules, IfOk-equal, append_assoc)
