use Rattle.cl_model.proofs.CoreTasks.{few_distances}
use Rattle.cl_model.proofs.laws.tasks.deadlines_span_few_distances.Goals as goal

pub returns : goal.returns
returns c = few_distances
