use Rattle.cl_runs.proofs.MomentFacts.{has_read, earlier_read}
use Rattle.cl_runs.proofs.laws.moments.writers_have_read.Goals as goal

pub returns-clause-itself : goal.returns-clause-itself
returns-clause-itself c = has_read

pub returns-clause-earlier : goal.returns-clause-earlier
returns-clause-earlier c = earlier_read
