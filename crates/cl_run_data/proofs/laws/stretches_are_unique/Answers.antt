use Rattle.cl_run_data.proofs.OneStretchList.{stretches_once}
use Rattle.cl_run_data.proofs.laws.stretches_are_unique.Goals as goal

pub returns : goal.returns
returns c = stretches_once
