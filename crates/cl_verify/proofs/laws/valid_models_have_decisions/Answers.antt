use Rattle.cl_verify.proofs.SomeDecisions.{some_decisions}
use Rattle.cl_verify.proofs.laws.valid_models_have_decisions.Goals as goal

pub returns : goal.returns
returns c = some_decisions
