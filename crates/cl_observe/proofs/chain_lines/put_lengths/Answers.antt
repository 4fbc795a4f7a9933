use Rattle.std.proofs.Common.{rules}
use Rattle.std.proofs.lemmas.List.{append_assoc}
use Rattle.std.proofs.lemmas.Result.{IfOk-equal}
use Rattle.cl_observe.specs.Observed.{kind_length_lines}
use Rattle.cl_observe.proofs.chain_lines.put_lengths.Goals as goal

pub returns : goal.returns
unfolding kind_length_lines
returns c = search (rules, IfOk-equal, append_assoc)
