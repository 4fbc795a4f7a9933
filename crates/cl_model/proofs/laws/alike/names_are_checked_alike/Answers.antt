use Rattle.cl_model.proofs.NamedAlike.{names_stay, chains_stay, requirements_stay}
use Rattle.cl_model.proofs.laws.alike.names_are_checked_alike.Goals as goal

pub returns-clause-names : goal.returns-clause-names
returns-clause-names c = names_stay

pub returns-clause-chains : goal.returns-clause-chains
returns-clause-chains c = chains_stay

pub returns-clause-requirements : goal.returns-clause-requirements
returns-clause-requirements c = requirements_stay
