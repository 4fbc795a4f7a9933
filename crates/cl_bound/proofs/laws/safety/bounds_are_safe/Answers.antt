use Rattle.cl_hop.proofs.ChainBounds.{kept_safe}
use Rattle.cl_bound.proofs.SettledChains.{settled_safe}
use Rattle.cl_bound.proofs.laws.safety.bounds_are_safe.Goals as goal

pub returns-clause-settled : goal.returns-clause-settled
returns-clause-settled c = settled_safe

pub returns-clause-kept : goal.returns-clause-kept
returns-clause-kept c = kept_safe
