use Rattle.cl_model.proofs.{NamesApart.{cores_apart, stimuli_apart, labels_apart, tasks_apart, chains_apart, requirements_apart}, RunnableNames.runnables_apart}
use Rattle.cl_model.proofs.laws.names.names_are_apart.Goals as goal

pub returns-clause-cores : goal.returns-clause-cores
returns-clause-cores c = cores_apart

pub returns-clause-stimuli : goal.returns-clause-stimuli
returns-clause-stimuli c = stimuli_apart

pub returns-clause-labels : goal.returns-clause-labels
returns-clause-labels c = labels_apart

pub returns-clause-tasks : goal.returns-clause-tasks
returns-clause-tasks c = tasks_apart

pub returns-clause-runnables : goal.returns-clause-runnables
returns-clause-runnables c = runnables_apart

pub returns-clause-chains : goal.returns-clause-chains
returns-clause-chains c = chains_apart

pub returns-clause-requirements : goal.returns-clause-requirements
returns-clause-requirements c = requirements_apart
