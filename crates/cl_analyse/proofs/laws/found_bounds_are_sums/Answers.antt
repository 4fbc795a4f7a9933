use Rattle.cl_analyse.proofs.SafeFindings.{bounds_found}
use Rattle.cl_analyse.proofs.laws.found_bounds_are_sums.Goals as goal

pub returns : goal.returns
returns c = bounds_found
