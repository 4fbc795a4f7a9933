use Rattle.cl_runs.proofs.ModelSystem.{cores_are, count_is, timing_is}
use Rattle.cl_runs.proofs.laws.soundness.systems_have_the_tasks_of_their_models.Goals as goal

pub returns-clause-cores : goal.returns-clause-cores
returns-clause-cores c = cores_are

pub returns-clause-tasks : goal.returns-clause-tasks
returns-clause-tasks c = count_is

pub returns-clause-timing : goal.returns-clause-timing
returns-clause-timing c = timing_is
