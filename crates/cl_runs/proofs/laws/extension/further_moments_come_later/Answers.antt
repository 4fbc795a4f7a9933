use Rattle.cl_runs.proofs.Agreement.{start_returns, finish_returns, read_returns, write_returns}
use Rattle.cl_runs.proofs.laws.extension.further_moments_come_later.Goals as goal

pub returns-clause-starts : goal.returns-clause-starts
returns-clause-starts c = start_returns

pub returns-clause-finishes : goal.returns-clause-finishes
returns-clause-finishes c = finish_returns

pub returns-clause-reads : goal.returns-clause-reads
returns-clause-reads c = read_returns

pub returns-clause-writes : goal.returns-clause-writes
returns-clause-writes c = write_returns
