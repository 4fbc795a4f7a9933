use Rattle.cl_runs.proofs.MomentFacts.{reads_below, writes_within}
use Rattle.cl_runs.proofs.laws.moments.moments_lie_within.Goals as goal

pub returns-clause-reads : goal.returns-clause-reads
returns-clause-reads c = reads_below

pub returns-clause-writes : goal.returns-clause-writes
returns-clause-writes c = writes_within
