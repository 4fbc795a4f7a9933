use Rattle.cl_runs.proofs.ChainParts.{part_of_run}
use Rattle.cl_runs.proofs.laws.parts.parts_of_chains_are_complete.Goals as goal

pub returns : goal.returns
returns c = part_of_run
