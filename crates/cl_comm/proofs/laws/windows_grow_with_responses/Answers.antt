use Rattle.cl_comm.proofs.Responses.{reads_stay, writes_stay, ends_rise}
use Rattle.cl_comm.proofs.laws.windows_grow_with_responses.Goals as goal

pub returns-clause-reads : goal.returns-clause-reads
returns-clause-reads c = reads_stay

pub returns-clause-writes : goal.returns-clause-writes
returns-clause-writes c = writes_stay

pub returns-clause-ends : goal.returns-clause-ends
returns-clause-ends c = ends_rise
