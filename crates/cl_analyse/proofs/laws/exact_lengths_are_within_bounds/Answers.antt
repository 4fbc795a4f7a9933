use Rattle.cl_analyse.proofs.SafeFindings.{found_within}
use Rattle.cl_analyse.proofs.laws.exact_lengths_are_within_bounds.Goals as goal

pub returns : goal.returns
returns c = found_within
