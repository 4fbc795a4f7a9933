use Rattle.cl_cycle.proofs.CountedJobs.{released_in_phase}
use Rattle.cl_cycle.proofs.laws.counts.released_jobs_arrive_in_phase.Goals as goal

pub returns : goal.returns
returns c = released_in_phase
