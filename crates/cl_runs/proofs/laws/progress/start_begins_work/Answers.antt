use Rattle.cl_runs.proofs.{StartsFinishes.{start_begun, start_earliest}, MomentFacts.{has_started, has_started_through, earlier_started}}
use Rattle.cl_runs.proofs.laws.progress.start_begins_work.Goals as goal

pub returns-clause-begun : goal.returns-clause-begun
returns-clause-begun c = start_begun

pub returns-clause-earliest : goal.returns-clause-earliest
returns-clause-earliest c = start_earliest

pub returns-clause-exists : goal.returns-clause-exists
returns-clause-exists c = has_started

pub returns-clause-through : goal.returns-clause-through
returns-clause-through c = has_started_through

pub returns-clause-earlier : goal.returns-clause-earlier
returns-clause-earlier c = earlier_started
