use Rattle.cl_exact.proofs.ModelExact.{lengths_exist}
use Rattle.cl_exact.proofs.laws.lengths.exact_lengths_exist.Goals as goal

pub returns : goal.returns
returns c = lengths_exist
