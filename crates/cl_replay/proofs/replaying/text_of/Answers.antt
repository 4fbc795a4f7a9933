use Rattle.std.proofs.Common.{rules}
use Rattle.std.proofs.lemmas.List.{append_assoc}
use Rattle.cl_replay.specs.Replay.{replay_text}
use Rattle.cl_replay.proofs.replaying.text_of.Goals as goal

pub returns : goal.returns
unfolding replay_text
returns c = search (rules, append_assoc)
