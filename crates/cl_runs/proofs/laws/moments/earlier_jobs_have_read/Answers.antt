use Rattle.cl_runs.proofs.MomentFacts.{earlier_has_read}
use Rattle.cl_runs.proofs.laws.moments.earlier_jobs_have_read.Goals as goal

pub returns : goal.returns
returns c = earlier_has_read
