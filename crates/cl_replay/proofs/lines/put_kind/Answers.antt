use Rattle.std.proofs.Common.{rules}
use Rattle.std.proofs.lemmas.List.{append_assoc}
use Rattle.std.proofs.lemmas.Result.{IfOk-equal}
use Rattle.cl_replay.specs.Replay.{kind_line}
use Rattle.cl_replay.proofs.lines.put_kind.Goals as goal

pub returns : goal.returns
unfolding kind_line
returns c = search (rules, IfOk-equal, append_assoc)
