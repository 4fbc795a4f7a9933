use Rattle.cl_stim.proofs.laws.phases.first_arrivals_are_first.Goals as goal
use Rattle.cl_stim.proofs.PhaseSteps.{first_arrives, first_after, first_before}

pub returns-clause-arrives : goal.returns-clause-arrives
returns-clause-arrives c = first_arrives

pub returns-clause-after : goal.returns-clause-after
returns-clause-after c = first_after

pub returns-clause-first : goal.returns-clause-first
returns-clause-first c = first_before
