use Rattle.cl_exact.proofs.RunExact.{chains_until_the_end}
use Rattle.cl_exact.proofs.laws.runs.chains_are_ideal_until_the_end.Goals as goal

pub returns : goal.returns
returns c = chains_until_the_end
