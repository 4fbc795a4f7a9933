use Rattle.cl_resp.proofs.ClearMoments.{job_in_window, done_finishes}
use Rattle.cl_resp.proofs.laws.clear.jobs_are_done_in_windows.Goals as goal

pub returns-clause-done : goal.returns-clause-done
returns-clause-done c = job_in_window

pub returns-clause-finished : goal.returns-clause-finished
returns-clause-finished c = done_finishes
