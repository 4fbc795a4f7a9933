use Rattle.cl_resp.proofs.WorstTasks.{only_one}
use Rattle.cl_resp.proofs.laws.worst.worst_windows_are_unique.Goals as goal

pub returns : goal.returns
returns c = only_one
