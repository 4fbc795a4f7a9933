use Rattle.cl_bound.proofs.SettledChains.{settled_forward, settled_backward}
use Rattle.cl_bound.proofs.laws.hops.hops_bound_arrivals.Goals as goal

pub returns-clause-forward : goal.returns-clause-forward
returns-clause-forward c = settled_forward

pub returns-clause-backward : goal.returns-clause-backward
returns-clause-backward c = settled_backward
