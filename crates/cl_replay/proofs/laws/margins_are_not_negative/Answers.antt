use Rattle.cl_replay.proofs.SafeMargins.{have_margins}
use Rattle.cl_replay.proofs.laws.margins_are_not_negative.Goals as goal

pub returns : goal.returns
returns c = have_margins
