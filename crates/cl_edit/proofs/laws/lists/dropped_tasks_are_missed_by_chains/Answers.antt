use Rattle.cl_edit.proofs.TaskRemoval.{dropped_task_refused}
use Rattle.cl_edit.proofs.laws.lists.dropped_tasks_are_missed_by_chains.Goals as goal

pub returns : goal.returns
returns c model task valid within = dropped_task_refused model valid task within
