use Rattle.cl_designs.proofs.OneText.{some_order_text, one_order_text}
use Rattle.cl_designs.proofs.laws.order_texts_are_unique.Goals as goal

pub returns-clause-some : goal.returns-clause-some
returns-clause-some c = some_order_text

pub returns-clause-one : goal.returns-clause-one
returns-clause-one c = one_order_text
