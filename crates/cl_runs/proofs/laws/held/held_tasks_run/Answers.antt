use Rattle.cl_runs.proofs.{LegalFacts.held_has_work, Holding.{held_executes, held_executed}}
use Rattle.cl_runs.proofs.laws.held.held_tasks_run.Goals as goal

pub returns-clause-pending : goal.returns-clause-pending
returns-clause-pending c = λ system sound run legal i t is. held_has_work system sound run legal i is t

pub returns-clause-executes : goal.returns-clause-executes
returns-clause-executes c = held_executes

pub returns-clause-executed : goal.returns-clause-executed
returns-clause-executed c = held_executed
