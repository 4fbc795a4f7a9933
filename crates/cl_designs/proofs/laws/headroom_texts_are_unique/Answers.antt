use Rattle.cl_designs.proofs.OneText.{some_headroom_text, one_headroom_text}
use Rattle.cl_designs.proofs.laws.headroom_texts_are_unique.Goals as goal

pub returns-clause-some : goal.returns-clause-some
returns-clause-some c = some_headroom_text

pub returns-clause-one : goal.returns-clause-one
returns-clause-one c = one_headroom_text
