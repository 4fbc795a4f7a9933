use Rattle.cl_model.proofs.ValidTasks.{has_runnable, runnables_in_range, times_ordered, some_time, little_time}
use Rattle.cl_model.proofs.laws.tasks.jobs_take_time.Goals as goal

pub returns-clause-some_runnable : goal.returns-clause-some_runnable
returns-clause-some_runnable c = has_runnable

pub returns-clause-in_range : goal.returns-clause-in_range
returns-clause-in_range c = runnables_in_range

pub returns-clause-ordered : goal.returns-clause-ordered
returns-clause-ordered c = times_ordered

pub returns-clause-some_time : goal.returns-clause-some_time
returns-clause-some_time c = some_time

pub returns-clause-little_time : goal.returns-clause-little_time
returns-clause-little_time c = little_time
