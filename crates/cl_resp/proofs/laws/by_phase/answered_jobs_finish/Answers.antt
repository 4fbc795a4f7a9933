use Rattle.cl_resp.proofs.AnsweredJobs.{whole_jobs_finish, parts_finish}
use Rattle.cl_resp.proofs.laws.by_phase.answered_jobs_finish.Goals as goal

pub returns-clause-whole : goal.returns-clause-whole
returns-clause-whole c = whole_jobs_finish

pub returns-clause-part : goal.returns-clause-part
returns-clause-part c = parts_finish
