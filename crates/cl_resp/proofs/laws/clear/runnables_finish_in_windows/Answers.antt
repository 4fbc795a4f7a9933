use Rattle.cl_resp.proofs.ClearMoments.{runnable_in_window}
use Rattle.cl_resp.proofs.laws.clear.runnables_finish_in_windows.Goals as goal

pub returns : goal.returns
returns c = runnable_in_window
