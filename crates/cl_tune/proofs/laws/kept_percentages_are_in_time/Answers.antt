use Rattle.cl_tune.proofs.KeptInTime.{kept_in_time}
use Rattle.cl_tune.proofs.laws.kept_percentages_are_in_time.Goals as goal

pub returns : goal.returns
returns c = kept_in_time
