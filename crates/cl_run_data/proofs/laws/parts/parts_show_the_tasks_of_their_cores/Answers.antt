use Rattle.cl_run_data.proofs.ShownTasks.{part_shows_task, part_shows_groups}
use Rattle.cl_run_data.proofs.laws.parts.parts_show_the_tasks_of_their_cores.Goals as goal

pub returns-clause-task : goal.returns-clause-task
returns-clause-task c = part_shows_task

pub returns-clause-groups : goal.returns-clause-groups
returns-clause-groups c = part_shows_groups
