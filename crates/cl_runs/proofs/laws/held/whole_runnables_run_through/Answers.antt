use Rattle.cl_runs.proofs.Holding.{whole_executes, whole_finishes}
use Rattle.cl_runs.proofs.laws.held.whole_runnables_run_through.Goals as goal

pub returns-clause-executes : goal.returns-clause-executes
returns-clause-executes c = whole_executes

pub returns-clause-finishes : goal.returns-clause-finishes
returns-clause-finishes c = whole_finishes
