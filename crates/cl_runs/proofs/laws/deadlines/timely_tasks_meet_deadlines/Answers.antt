use Rattle.cl_runs.proofs.TimelyTasks.{meets_deadlines}
use Rattle.cl_runs.proofs.laws.deadlines.timely_tasks_meet_deadlines.Goals as goal

pub returns : goal.returns
returns c = meets_deadlines
