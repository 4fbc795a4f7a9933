use Rattle.cl_runs.proofs.RunArrivals.{next_within, next_due}
use Rattle.cl_runs.proofs.laws.jobs.next_jobs_arrive.Goals as goal

pub returns-clause-within : goal.returns-clause-within
returns-clause-within c = next_within

pub returns-clause-due : goal.returns-clause-due
returns-clause-due c = next_due
