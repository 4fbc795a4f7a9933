use Rattle.cl_run_data.proofs.ShownTasks.{legal_shows_task, legal_shows_groups}
use Rattle.cl_run_data.proofs.laws.parts.legal_runs_show_their_tasks.Goals as goal

pub returns-clause-task : goal.returns-clause-task
returns-clause-task c = legal_shows_task

pub returns-clause-groups : goal.returns-clause-groups
returns-clause-groups c = legal_shows_groups
