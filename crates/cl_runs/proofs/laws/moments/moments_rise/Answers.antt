use Rattle.cl_runs.proofs.MomentFacts.{reads_rise, writes_rise}
use Rattle.cl_runs.proofs.laws.moments.moments_rise.Goals as goal

pub returns-clause-reads : goal.returns-clause-reads
returns-clause-reads c = reads_rise

pub returns-clause-writes : goal.returns-clause-writes
returns-clause-writes c = writes_rise
