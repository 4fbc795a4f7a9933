use Rattle.cl_runs.proofs.StartsFinishes.{finish_reached, finish_earliest, finishes_by}
use Rattle.cl_runs.proofs.laws.progress.finish_reaches_work.Goals as goal

pub returns-clause-reached : goal.returns-clause-reached
returns-clause-reached c = finish_reached

pub returns-clause-earliest : goal.returns-clause-earliest
returns-clause-earliest c = finish_earliest

pub returns-clause-exists : goal.returns-clause-exists
returns-clause-exists c = finishes_by
