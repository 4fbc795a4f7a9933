use Rattle.cl_cut.proofs.OneCutAnswer.{some_answers, one_answers}
use Rattle.cl_cut.proofs.laws.cut_answers_are_unique.Goals as goal

pub returns-clause-some : goal.returns-clause-some
returns-clause-some c = some_answers

pub returns-clause-one : goal.returns-clause-one
returns-clause-one c = one_answers
