use Rattle.cl_comm.proofs.AccessTimes.{windows_end_by_the_deadline}
use Rattle.cl_comm.proofs.laws.windows_end_by_the_deadline.Goals as goal

pub returns : goal.returns
returns c = windows_end_by_the_deadline
