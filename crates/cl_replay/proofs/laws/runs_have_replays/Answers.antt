use Rattle.cl_replay.proofs.SomeReplay.{some_replay}
use Rattle.cl_replay.proofs.laws.runs_have_replays.Goals as goal

pub returns : goal.returns
returns c = some_replay
