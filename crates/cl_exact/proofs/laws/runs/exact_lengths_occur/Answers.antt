use Rattle.cl_exact.proofs.RunExact.{witness_run}
use Rattle.cl_exact.proofs.laws.runs.exact_lengths_occur.Goals as goal

pub returns : goal.returns
returns c = witness_run
