use Rattle.cl_model.proofs.Links.{parts_known, chains_known}
use Rattle.cl_model.proofs.laws.links.parts_are_known.Goals as goal

pub returns-clause-tasks : goal.returns-clause-tasks
returns-clause-tasks c = parts_known

pub returns-clause-requirements : goal.returns-clause-requirements
returns-clause-requirements c = chains_known
