use Rattle.cl_exact.proofs.HopsBothWays.{ideal_chains}
use Rattle.cl_exact.proofs.laws.hops.forward_chains_follow_backward_chains.Goals as goal

pub returns : goal.returns
returns c = ideal_chains
