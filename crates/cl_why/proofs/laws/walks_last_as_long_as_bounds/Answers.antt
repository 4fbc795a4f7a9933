use Rattle.cl_why.proofs.SafeWalks.{last_as_bounds}
use Rattle.cl_why.proofs.laws.walks_last_as_long_as_bounds.Goals as goal

pub returns : goal.returns
returns c = last_as_bounds
