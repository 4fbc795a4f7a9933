use Rattle.cl_stim.proofs.laws.phases.last_arrivals_are_last.Goals as goal
use Rattle.cl_stim.proofs.PhaseSteps.{last_arrives, last_before, last_after}

pub returns-clause-arrives : goal.returns-clause-arrives
returns-clause-arrives c = last_arrives

pub returns-clause-before : goal.returns-clause-before
returns-clause-before c = last_before

pub returns-clause-last : goal.returns-clause-last
returns-clause-last c = last_after
