use Rattle.cl_comm.proofs.AccessTimes.{writes_come_in_time}
use Rattle.cl_comm.proofs.laws.writes_come_in_time.Goals as goal

pub returns : goal.returns
returns c = writes_come_in_time
