use Rattle.cl_runs.proofs.ArrivalFacts.{next_within, next_due}
use Rattle.cl_runs.proofs.laws.patterns.next_jobs_arrive_in_time.Goals as goal

pub returns-clause-within : goal.returns-clause-within
returns-clause-within c = next_within

pub returns-clause-due : goal.returns-clause-due
returns-clause-due c = next_due
