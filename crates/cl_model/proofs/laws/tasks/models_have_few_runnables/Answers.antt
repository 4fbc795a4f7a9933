use Rattle.cl_model.proofs.ValidTasks.{few_runnables}
use Rattle.cl_model.proofs.laws.tasks.models_have_few_runnables.Goals as goal

pub returns : goal.returns
returns c = few_runnables
