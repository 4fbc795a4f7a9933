use Rattle.cl_exact.proofs.ExactOnce.{exact_unique}
use Rattle.cl_exact.proofs.laws.lengths.exact_lengths_are_unique.Goals as goal

pub returns : goal.returns
returns c = exact_unique
