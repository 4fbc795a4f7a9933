use Rattle.cl_model.proofs.ValidTasks.{distance_positive, distances_ordered}
use Rattle.cl_model.proofs.laws.tasks.distances_are_ordered.Goals as goal

pub returns-clause-positive : goal.returns-clause-positive
returns-clause-positive c = distance_positive

pub returns-clause-ordered : goal.returns-clause-ordered
returns-clause-ordered c = distances_ordered
