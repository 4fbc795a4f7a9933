use Rattle.cl_replay.proofs.OneReplay.{one_replay}
use Rattle.cl_replay.proofs.laws.replays_are_unique.Goals as goal

pub returns : goal.returns
returns c = one_replay
