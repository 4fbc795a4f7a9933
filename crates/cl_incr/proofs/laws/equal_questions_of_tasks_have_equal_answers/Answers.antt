use Rattle.cl_incr.proofs.ByQuestions.{same_answers}
use Rattle.cl_incr.proofs.laws.equal_questions_of_tasks_have_equal_answers.Goals as goal

pub returns : goal.returns
returns c = same_answers
