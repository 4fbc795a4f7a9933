use Rattle.cl_margin.proofs.OneMargin.{some_margin, only_one}
use Rattle.cl_margin.proofs.laws.margins_are_unique.Goals as goal

pub returns-clause-some : goal.returns-clause-some
returns-clause-some c = some_margin

pub returns-clause-one : goal.returns-clause-one
returns-clause-one c = only_one
