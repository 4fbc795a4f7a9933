use Rattle.cl_phase.proofs.SamePatterns.{same_bounds}
use Rattle.cl_phase.proofs.laws.sums.tight_bounds_rest_on_patterns.Goals as goal

pub returns : goal.returns
returns c = same_bounds
