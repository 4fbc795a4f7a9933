use Rattle.cl_runs.proofs.Holding.{start_free, start_pending}
use Rattle.cl_runs.proofs.laws.held.highest_tasks_start.Goals as goal

pub returns-clause-none_held : goal.returns-clause-none_held
returns-clause-none_held c = start_free

pub returns-clause-highest : goal.returns-clause-highest
returns-clause-highest c = start_pending
