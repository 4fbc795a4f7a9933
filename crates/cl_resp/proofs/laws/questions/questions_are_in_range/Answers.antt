use Rattle.cl_resp.specs.declared.question.Block.TheVariants.{WithOwn}
use Rattle.cl_resp.proofs.Questions.{questions_in_range}
use Rattle.cl_resp.proofs.laws.questions.questions_are_in_range.Goals as goal

pub returns : goal.returns
returns c = questions_in_range WithOwn
