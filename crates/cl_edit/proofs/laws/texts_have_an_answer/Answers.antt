use Rattle.cl_edit.proofs.SomeAnswer.{some_answer}
use Rattle.cl_edit.proofs.laws.texts_have_an_answer.Goals as goal

pub returns : goal.returns
returns c = some_answer
