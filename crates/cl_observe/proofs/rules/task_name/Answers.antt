use Rattle.cl_observe.proofs.NamesPast.{no_task_name}
use Rattle.cl_observe.proofs.rules.task_name.Goals as goal

pub returns-in-None : goal.returns-in-None
returns-in-None c = no_task_name c.args.model.now c.args.task (rw c.plain.ensures.plain at c.in-None.ensures)
