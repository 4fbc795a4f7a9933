use Rattle.cl_examples.proofs.TimedTasks.{timed_system, timed_groups}
use Rattle.cl_examples.proofs.laws.model_of_timed_tasks.Goals as goal

pub returns-clause-system : goal.returns-clause-system
returns-clause-system c = timed_system

pub returns-clause-groups : goal.returns-clause-groups
returns-clause-groups c = timed_groups
