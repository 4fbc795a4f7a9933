use Rattle.cl_model.proofs.ValidTasks.{kinds_ordered, kind_ordered}
use Rattle.cl_model.proofs.laws.tasks.stimuli_are_ordered.Goals as goal

pub returns-clause-stimuli : goal.returns-clause-stimuli
returns-clause-stimuli c = kinds_ordered

pub returns-clause-of_task : goal.returns-clause-of_task
returns-clause-of_task c = kind_ordered
