use Rattle.cl_runs.proofs.OneRun.{one_run}
use Rattle.cl_runs.proofs.laws.table.one_run_a_table.Goals as goal

pub returns : goal.returns
returns c = one_run
