use Rattle.cl_margin.proofs.GrownValid.{grown_valid, grown_same}
use Rattle.cl_margin.proofs.laws.grown_models_are_valid.Goals as goal

pub returns-clause-valid : goal.returns-clause-valid
returns-clause-valid c = grown_valid

pub returns-clause-same : goal.returns-clause-same
returns-clause-same c = grown_same
