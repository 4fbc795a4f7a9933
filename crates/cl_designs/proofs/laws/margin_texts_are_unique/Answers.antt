use Rattle.cl_designs.proofs.MarginTexts.{some_margin_text, one_margin_text}
use Rattle.cl_designs.proofs.laws.margin_texts_are_unique.Goals as goal

pub returns-clause-some : goal.returns-clause-some
returns-clause-some c = some_margin_text

pub returns-clause-one : goal.returns-clause-one
returns-clause-one c = one_margin_text
