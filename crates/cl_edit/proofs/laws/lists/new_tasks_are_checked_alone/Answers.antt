use Rattle.cl_edit.proofs.TaskAdded.{new_task_refused}
use Rattle.cl_edit.proofs.laws.lists.new_tasks_are_checked_alone.Goals as goal

pub returns : goal.returns
returns c model task valid = new_task_refused model valid task
