use Rattle.cl_cycle.proofs.CountedTicks.{comes_round}
use Rattle.cl_cycle.proofs.laws.counts.arrivals_come_round.Goals as goal

pub returns : goal.returns
returns c = comes_round
