use Rattle.cl_runs.proofs.MomentFacts.{late_writes_nothing}
use Rattle.cl_runs.proofs.laws.moments.late_timed_jobs_write_nothing.Goals as goal

pub returns : goal.returns
returns c = late_writes_nothing
