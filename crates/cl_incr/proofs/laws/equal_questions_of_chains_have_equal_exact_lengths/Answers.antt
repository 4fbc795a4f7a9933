use Rattle.cl_incr.proofs.ByQuestions.{exact_answers_same}
use Rattle.cl_incr.proofs.laws.equal_questions_of_chains_have_equal_exact_lengths.Goals as goal

pub returns : goal.returns
returns c = exact_answers_same
