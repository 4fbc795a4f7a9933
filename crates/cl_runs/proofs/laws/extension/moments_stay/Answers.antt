use Rattle.cl_runs.proofs.Agreement.{starts_kept, finishes_kept, reads_kept, writes_kept}
use Rattle.cl_runs.proofs.laws.extension.moments_stay.Goals as goal

pub returns-clause-starts : goal.returns-clause-starts
returns-clause-starts c = starts_kept

pub returns-clause-finishes : goal.returns-clause-finishes
returns-clause-finishes c = finishes_kept

pub returns-clause-reads : goal.returns-clause-reads
returns-clause-reads c = reads_kept

pub returns-clause-writes : goal.returns-clause-writes
returns-clause-writes c = writes_kept
