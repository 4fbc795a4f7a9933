use Rattle.cl_check.proofs.JobsInOrder.{shown_in_order, shown_groups_in_order}
use Rattle.cl_check.proofs.laws.shown_tasks_are_in_order.Goals as goal

pub returns-clause-task : goal.returns-clause-task
returns-clause-task c = shown_in_order

pub returns-clause-groups : goal.returns-clause-groups
returns-clause-groups c = shown_groups_in_order
