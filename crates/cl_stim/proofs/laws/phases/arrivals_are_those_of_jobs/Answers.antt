use Rattle.cl_stim.proofs.RunPhases.{run_arrives, run_in_phase, run_within}
use Rattle.cl_stim.proofs.laws.phases.arrivals_are_those_of_jobs.Goals as goal

pub returns-clause-arrive : goal.returns-clause-arrive
returns-clause-arrive c = run_arrives

pub returns-clause-follow : goal.returns-clause-follow
returns-clause-follow c = run_in_phase

pub returns-clause-within : goal.returns-clause-within
returns-clause-within c = run_within
