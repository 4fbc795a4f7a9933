use Rattle.cl_model.proofs.ValidTasks.{kind_in_range, early_enough, released_before}
use Rattle.cl_model.proofs.laws.tasks.tasks_are_in_time.Goals as goal

pub returns-clause-released : goal.returns-clause-released
returns-clause-released c = released_before

pub returns-clause-due : goal.returns-clause-due
returns-clause-due c = early_enough

pub returns-clause-kind : goal.returns-clause-kind
returns-clause-kind c = kind_in_range
