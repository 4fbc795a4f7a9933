use Rattle.cl_top.proofs.Answers.{some_outcome}
use Rattle.cl_top.proofs.laws.outcomes.words_have_an_outcome.Goals as goal

pub returns : goal.returns
returns c = some_outcome
