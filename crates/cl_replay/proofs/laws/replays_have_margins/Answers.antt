use Rattle.cl_replay.proofs.SafeMargins.{with_margins}
use Rattle.cl_replay.proofs.laws.replays_have_margins.Goals as goal

pub returns : goal.returns
returns c = with_margins
