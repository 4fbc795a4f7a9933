use Rattle.cl_comm.proofs.AccessTimes.{writes_come_late}
use Rattle.cl_comm.proofs.laws.writes_come_late.Goals as goal

pub returns : goal.returns
returns c = writes_come_late
