use Rattle.cl_runs.proofs.BurstLaws.{pattern_bursts, bursts_pattern}
use Rattle.cl_runs.proofs.laws.arrivals.burst_arrivals.Goals as goal

pub returns-clause-follow : goal.returns-clause-follow
returns-clause-follow c = pattern_bursts

pub returns-clause-back : goal.returns-clause-back
returns-clause-back c = bursts_pattern
