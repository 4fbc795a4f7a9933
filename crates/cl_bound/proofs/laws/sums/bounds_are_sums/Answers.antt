use Rattle.cl_bound.proofs.SettledChains.{settled_sums, only_bounds}
use Rattle.cl_bound.proofs.laws.sums.bounds_are_sums.Goals as goal

pub returns-clause-are : goal.returns-clause-are
returns-clause-are c = settled_sums

pub returns-clause-alone : goal.returns-clause-alone
returns-clause-alone c = only_bounds
