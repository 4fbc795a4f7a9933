use Rattle.cl_model.proofs.Links.{cores_found, stimuli_found, labels_found}
use Rattle.cl_model.proofs.laws.names.sections_are_found.Goals as goal

pub returns-clause-cores : goal.returns-clause-cores
returns-clause-cores c = cores_found

pub returns-clause-stimuli : goal.returns-clause-stimuli
returns-clause-stimuli c = stimuli_found

pub returns-clause-labels : goal.returns-clause-labels
returns-clause-labels c = labels_found
