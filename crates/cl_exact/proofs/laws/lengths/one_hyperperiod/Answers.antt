use Rattle.cl_exact.proofs.ExactOnce.{hyperperiod_once}
use Rattle.cl_exact.proofs.laws.lengths.one_hyperperiod.Goals as goal

pub returns : goal.returns
returns c = hyperperiod_once
