use Rattle.cl_model.proofs.{NamePlaces.stands_known, StepsApart.own_step, StepFacts.{step_stands_in, step_has_name}}
use Rattle.cl_model.proofs.laws.names.runnables_are_found.Goals as goal

pub returns-clause-own : goal.returns-clause-own
returns-clause-own c = own_step

pub returns-clause-known : goal.returns-clause-known
returns-clause-known c model name stands = step_stands_in model name (stands_known name _ stands)

pub returns-clause-named : goal.returns-clause-named
returns-clause-named c model name stands = step_has_name model name (stands_known name _ stands)
