use Rattle.cl_runs.proofs.PatternLaws.{pattern_period, period_pattern}
use Rattle.cl_runs.proofs.laws.arrivals.periodic_arrivals.Goals as goal

pub returns-clause-follow : goal.returns-clause-follow
returns-clause-follow c = pattern_period

pub returns-clause-back : goal.returns-clause-back
returns-clause-back c = period_pattern
