use Rattle.cl_examples.proofs.TimedTasks.{timed_sound, timed_settled}
use Rattle.cl_examples.proofs.laws.timed_tasks_are_settled.Goals as goal

pub returns-clause-sound : goal.returns-clause-sound
returns-clause-sound c = timed_sound

pub returns-clause-settled : goal.returns-clause-settled
returns-clause-settled c = timed_settled
