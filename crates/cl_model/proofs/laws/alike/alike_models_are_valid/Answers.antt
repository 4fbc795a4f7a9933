use Rattle.cl_model.proofs.AlikeValid.{valid_alike}
use Rattle.cl_model.proofs.laws.alike.alike_models_are_valid.Goals as goal

pub returns : goal.returns
returns c = valid_alike
