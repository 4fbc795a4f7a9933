use Rattle.cl_tune.proofs.{NewPriorities.has_priorities, ReorderedValid.reordered_valid}
use Rattle.cl_tune.proofs.laws.reordered_models_are_valid.Goals as goal

pub returns-clause-valid : goal.returns-clause-valid
returns-clause-valid c = reordered_valid

pub returns-clause-system : goal.returns-clause-system
returns-clause-system c = has_priorities
