use Rattle.cl_designs.proofs.OneText.{some_cut_text, one_cut_text}
use Rattle.cl_designs.proofs.laws.cut_texts_are_unique.Goals as goal

pub returns-clause-some : goal.returns-clause-some
returns-clause-some c = some_cut_text

pub returns-clause-one : goal.returns-clause-one
returns-clause-one c = one_cut_text
