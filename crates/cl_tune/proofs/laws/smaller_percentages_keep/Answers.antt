use Rattle.cl_tune.proofs.KeptBelow.{kept_below}
use Rattle.cl_tune.proofs.laws.smaller_percentages_keep.Goals as goal

pub returns : goal.returns
returns c = kept_below
