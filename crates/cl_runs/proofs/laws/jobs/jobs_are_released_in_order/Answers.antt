use Rattle.cl_runs.proofs.RunArrivals.{releases_in_order, released_late, released_within}
use Rattle.cl_runs.proofs.laws.jobs.jobs_are_released_in_order.Goals as goal

pub returns-clause-order : goal.returns-clause-order
returns-clause-order c = releases_in_order

pub returns-clause-not_early : goal.returns-clause-not_early
returns-clause-not_early c = released_late

pub returns-clause-not_late : goal.returns-clause-not_late
returns-clause-not_late c = released_within
