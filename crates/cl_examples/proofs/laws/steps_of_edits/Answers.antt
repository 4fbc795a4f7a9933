use Rattle.cl_examples.proofs.EditSteps.{longer_steps, later_steps, dropped_steps, swapped_steps}
use Rattle.cl_examples.proofs.laws.steps_of_edits.Goals as goal

pub returns-clause-longer : goal.returns-clause-longer
returns-clause-longer c = longer_steps

pub returns-clause-later : goal.returns-clause-later
returns-clause-later c = later_steps

pub returns-clause-dropped : goal.returns-clause-dropped
returns-clause-dropped c = dropped_steps

pub returns-clause-swapped : goal.returns-clause-swapped
returns-clause-swapped c = swapped_steps
