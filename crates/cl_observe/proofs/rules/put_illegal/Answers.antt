use Rattle.std.proofs.Common.{rules}
use Rattle.std.proofs.lemmas.List.{append_assoc}
use Rattle.std.proofs.lemmas.Result.{IfOk-equal}
use Rattle.cl_observe.specs.Rules.{illegal_line}
use Rattle.cl_observe.proofs.rules.put_illegal.Goals as goal

pub returns : goal.returns
unfolding illegal_line
returns c = search (rules, IfOk-equal, append_assoc)
