use Rattle.cl_examples.proofs.ModelOfExample.{model_system, model_groups}
use Rattle.cl_examples.proofs.laws.model_of_two_tasks.Goals as goal

pub returns-clause-system : goal.returns-clause-system
returns-clause-system c = model_system

pub returns-clause-groups : goal.returns-clause-groups
returns-clause-groups c = model_groups
