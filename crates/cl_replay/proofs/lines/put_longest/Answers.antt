use Rattle.std.proofs.Common.{rules, ◌-◌}
use Rattle.std.proofs.lemmas.List.{append_assoc}
use Rattle.std.proofs.lemmas.Result.{IfOk-equal}
use Rattle.cl_replay.specs.Replay.{longest_words}
use Rattle.cl_replay.proofs.SafeMargins.{within_most}
use Rattle.cl_replay.proofs.lines.put_longest.Goals as goal

pub put_margin-requires : goal.put_margin-requires
put_margin-requires c = λ most is. within_most (c.args.longest.now.to - c.args.longest.now.from) most (c.requires.margin.within most is)

pub returns : goal.returns
unfolding longest_words
returns c = search (rules, IfOk-equal, append_assoc)
