use Rattle.cl_comm.proofs.AccessTimes.{responses_hold_the_least_times}
use Rattle.cl_comm.proofs.laws.responses_hold_the_least_times.Goals as goal

pub returns : goal.returns
returns c = responses_hold_the_least_times
