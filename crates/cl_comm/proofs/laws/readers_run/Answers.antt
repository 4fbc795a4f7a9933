use Rattle.cl_comm.proofs.AccessTimes.{readers_run, readers_write_by_their_finish}
use Rattle.cl_comm.proofs.laws.readers_run.Goals as goal

pub returns-clause-reads : goal.returns-clause-reads
returns-clause-reads c = readers_run

pub returns-clause-writes : goal.returns-clause-writes
returns-clause-writes c = readers_write_by_their_finish
