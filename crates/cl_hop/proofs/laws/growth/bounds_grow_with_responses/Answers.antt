use Rattle.cl_hop.proofs.NoGreater.{stays_within, bounds_no_greater}
use Rattle.cl_hop.proofs.laws.growth.bounds_grow_with_responses.Goals as goal

pub returns-clause-writes : goal.returns-clause-writes
returns-clause-writes c = stays_within

pub returns-clause-bounds : goal.returns-clause-bounds
returns-clause-bounds c = bounds_no_greater
