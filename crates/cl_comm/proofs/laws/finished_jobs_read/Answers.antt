use Rattle.cl_comm.proofs.AccessTimes.{finished_jobs_read}
use Rattle.cl_comm.proofs.laws.finished_jobs_read.Goals as goal

pub returns : goal.returns
returns c = finished_jobs_read
