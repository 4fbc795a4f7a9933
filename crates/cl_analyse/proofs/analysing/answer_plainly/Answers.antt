use Rattle.cl_bound.specs.Answers.{answers_of}
use Rattle.cl_analyse.proofs.analysing.answer_plainly.Goals as goal

pub returns-clause-answers : goal.returns-clause-answers
unfolding answers_of
returns-clause-answers g c = c.answer_tasks.ensures.answers
