use Rattle.cl_exact.proofs.ModelExact.{lengths_tied}
use Rattle.cl_exact.proofs.laws.lengths.exact_lengths_are_tied.Goals as goal

pub returns : goal.returns
returns c = lengths_tied
