use Rattle.cl_trace.proofs.SomeAnswer.{some_answer}
use Rattle.cl_trace.proofs.laws.traces.texts_have_an_answer.Goals as goal

pub returns : goal.returns
returns c = some_answer
