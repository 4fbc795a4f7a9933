use Rattle.cl_runs.proofs.RunArrivals.{arrivals_apart, arrives_after_deadline}
use Rattle.cl_runs.proofs.laws.jobs.jobs_arrive_apart.Goals as goal

pub returns-clause-distance : goal.returns-clause-distance
returns-clause-distance c = arrivals_apart

pub returns-clause-deadline : goal.returns-clause-deadline
returns-clause-deadline c = arrives_after_deadline
