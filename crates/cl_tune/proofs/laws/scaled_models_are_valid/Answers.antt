use Rattle.cl_scale.proofs.ScaledValid.{scaled_valid}
use Rattle.cl_tune.proofs.laws.scaled_models_are_valid.Goals as goal

pub returns : goal.returns
returns c = λ model valid percent in_range. scaled_valid model percent valid in_range
