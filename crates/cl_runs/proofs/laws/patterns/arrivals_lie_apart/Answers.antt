use Rattle.cl_runs.proofs.ArrivalFacts.{arrivals_apart}
use Rattle.cl_runs.proofs.laws.patterns.arrivals_lie_apart.Goals as goal

pub returns : goal.returns
returns c = arrivals_apart
