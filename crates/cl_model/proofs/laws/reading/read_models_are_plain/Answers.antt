use Rattle.cl_model.proofs.ReadModels.{read_in_range, read_named}
use Rattle.cl_model.proofs.laws.reading.read_models_are_plain.Goals as goal

pub returns-clause-in_range : goal.returns-clause-in_range
returns-clause-in_range c = read_in_range

pub returns-clause-named : goal.returns-clause-named
returns-clause-named c = read_named
