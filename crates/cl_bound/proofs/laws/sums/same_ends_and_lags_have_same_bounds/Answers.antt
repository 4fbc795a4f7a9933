use Rattle.cl_bound.proofs.SameEnds.{same_bounds}
use Rattle.cl_bound.proofs.laws.sums.same_ends_and_lags_have_same_bounds.Goals as goal

pub returns : goal.returns
returns c = same_bounds
