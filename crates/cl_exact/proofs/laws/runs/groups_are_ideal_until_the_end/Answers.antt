use Rattle.cl_exact.proofs.RunExact.{until_the_end}
use Rattle.cl_exact.proofs.laws.runs.groups_are_ideal_until_the_end.Goals as goal

pub returns : goal.returns
returns c = until_the_end
