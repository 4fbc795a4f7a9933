use Rattle.cl_model.proofs.CoreTasks.{few_tasks, priorities_differ}
use Rattle.cl_model.proofs.laws.tasks.cores_have_few_tasks.Goals as goal

pub returns-clause-few : goal.returns-clause-few
returns-clause-few c = few_tasks

pub returns-clause-apart : goal.returns-clause-apart
returns-clause-apart c = priorities_differ
