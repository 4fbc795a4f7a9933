use Rattle.cl_comm.proofs.AccessTimes.{writes_come_before_the_next_read}
use Rattle.cl_comm.proofs.laws.writes_come_before_the_next_read.Goals as goal

pub returns : goal.returns
returns c = writes_come_before_the_next_read
