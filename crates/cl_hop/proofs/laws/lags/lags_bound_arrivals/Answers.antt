use Rattle.cl_hop.proofs.LagBounds.{forward_lag, backward_lag}
use Rattle.cl_hop.proofs.laws.lags.lags_bound_arrivals.Goals as goal

pub returns-clause-forward : goal.returns-clause-forward
returns-clause-forward c = forward_lag

pub returns-clause-backward : goal.returns-clause-backward
returns-clause-backward c = backward_lag
