use Rattle.cl_comm.proofs.AccessTimes.{reads_come_late}
use Rattle.cl_comm.proofs.laws.reads_come_late.Goals as goal

pub returns : goal.returns
returns c = reads_come_late
