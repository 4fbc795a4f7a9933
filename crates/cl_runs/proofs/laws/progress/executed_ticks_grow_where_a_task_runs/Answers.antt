use Rattle.cl_runs.proofs.Executed.{executed_zero, executed_more, executed_stays, executed_stretch, executed_rest}
use Rattle.cl_runs.proofs.laws.progress.executed_ticks_grow_where_a_task_runs.Goals as goal

pub returns-clause-none : goal.returns-clause-none
returns-clause-none c = executed_zero

pub returns-clause-runs : goal.returns-clause-runs
returns-clause-runs c = executed_more

pub returns-clause-rests : goal.returns-clause-rests
returns-clause-rests c = executed_stays

pub returns-clause-runs_on : goal.returns-clause-runs_on
returns-clause-runs_on c = executed_stretch

pub returns-clause-rests_on : goal.returns-clause-rests_on
returns-clause-rests_on c = executed_rest
