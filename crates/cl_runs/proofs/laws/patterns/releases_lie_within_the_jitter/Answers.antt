use Rattle.cl_runs.proofs.ArrivalFacts.{released_late, released_within}
use Rattle.cl_runs.proofs.laws.patterns.releases_lie_within_the_jitter.Goals as goal

pub returns-clause-not_early : goal.returns-clause-not_early
returns-clause-not_early c = released_late

pub returns-clause-not_late : goal.returns-clause-not_late
returns-clause-not_late c = released_within
