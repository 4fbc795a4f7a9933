use Rattle.cl_advice.proofs.Clashes.{rival_is_earlier, writer_is_earlier}
use Rattle.cl_advice.proofs.laws.clashes_are_with_earlier_ones.Goals as goal

pub returns-clause-tasks : goal.returns-clause-tasks
returns-clause-tasks c = rival_is_earlier

pub returns-clause-runnables : goal.returns-clause-runnables
returns-clause-runnables c = writer_is_earlier
