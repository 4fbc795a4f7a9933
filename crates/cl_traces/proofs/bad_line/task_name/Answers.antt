use Rattle.cl_traces.proofs.TasksByName.{no_name}
use Rattle.cl_traces.proofs.bad_line.task_name.Goals as goal

pub returns-in-None : goal.returns-in-None
returns-in-None c = no_name c.args.model.now c.args.task (rw c.plain.ensures.plain at c.in-None.ensures)
