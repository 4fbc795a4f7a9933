use Rattle.cl_runs.proofs.PatternLaws.{pattern_gaps, gaps_pattern}
use Rattle.cl_runs.proofs.laws.arrivals.sporadic_arrivals.Goals as goal

pub returns-clause-follow : goal.returns-clause-follow
returns-clause-follow c = pattern_gaps

pub returns-clause-back : goal.returns-clause-back
returns-clause-back c = gaps_pattern
