use Rattle.cl_run_data.proofs.Wholes.{has_whole}
use Rattle.cl_run_data.proofs.laws.parts.parts_are_of_legal_runs.Goals as goal

pub returns : goal.returns
returns c = has_whole
