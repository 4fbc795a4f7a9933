use Rattle.cl_incr.proofs.ByQuestions.{bounds_of_same, chain_answers_same}
use Rattle.cl_incr.proofs.laws.equal_questions_of_chains_have_equal_bounds.Goals as goal

pub returns-clause-bounds : goal.returns-clause-bounds
returns-clause-bounds c = bounds_of_same

pub returns-clause-answers : goal.returns-clause-answers
returns-clause-answers c = chain_answers_same
