use Rattle.cl_advice.proofs.FieldWants.{asks_core, asks_stimulus, asks_periodic, asks_sporadic, asks_burst, asks_label, asks_task, asks_runnable, asks_chain, asks_requirement, asks_section}
use Rattle.cl_advice.proofs.laws.wants_are_those_of_the_reader.Goals as goal

pub returns-clause-cores : goal.returns-clause-cores
returns-clause-cores c = asks_core

pub returns-clause-stimuli : goal.returns-clause-stimuli
returns-clause-stimuli c = asks_stimulus

pub returns-clause-periodic : goal.returns-clause-periodic
returns-clause-periodic c = asks_periodic

pub returns-clause-sporadic : goal.returns-clause-sporadic
returns-clause-sporadic c = asks_sporadic

pub returns-clause-bursts : goal.returns-clause-bursts
returns-clause-bursts c = asks_burst

pub returns-clause-labels : goal.returns-clause-labels
returns-clause-labels c = asks_label

pub returns-clause-tasks : goal.returns-clause-tasks
returns-clause-tasks c = asks_task

pub returns-clause-runnables : goal.returns-clause-runnables
returns-clause-runnables c = asks_runnable

pub returns-clause-chains : goal.returns-clause-chains
returns-clause-chains c = asks_chain

pub returns-clause-requirements : goal.returns-clause-requirements
returns-clause-requirements c = asks_requirement

pub returns-clause-sections : goal.returns-clause-sections
returns-clause-sections c = asks_section
