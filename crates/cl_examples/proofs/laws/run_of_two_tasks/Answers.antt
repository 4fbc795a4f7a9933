use Rattle.cl_examples.proofs.ExampleRun.{two_tasks_sound, run_legal}
use Rattle.cl_examples.proofs.laws.run_of_two_tasks.Goals as goal

pub returns-clause-sound : goal.returns-clause-sound
returns-clause-sound c = two_tasks_sound

pub returns-clause-legal : goal.returns-clause-legal
returns-clause-legal c = run_legal
