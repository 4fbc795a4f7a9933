use Rattle.std.proofs.Common.{rules}
use Rattle.std.proofs.lemmas.List.{append_assoc}
use Rattle.cl_designs.specs.Orders.{order_text}
use Rattle.cl_designs.proofs.orders.text_of.Goals as goal

pub returns : goal.returns
unfolding order_text
returns c = search (rules, append_assoc)
