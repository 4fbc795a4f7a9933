use Rattle.cl_gen.proofs.CountedJobs.{jobs_counted}
use Rattle.cl_gen.proofs.laws.counted_jobs_suffice.Goals as goal

pub returns : goal.returns
returns c = jobs_counted
