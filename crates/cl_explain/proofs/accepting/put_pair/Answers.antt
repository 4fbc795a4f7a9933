use Rattle.std.proofs.Common.{rules}
use Rattle.std.proofs.lemmas.List.{append_assoc}
use Rattle.std.proofs.lemmas.Result.{IfOk-equal}
use Rattle.cl_explain.specs.Accepted.{apart_line}
use Rattle.cl_explain.proofs.accepting.put_pair.Goals as goal

pub returns : goal.returns
unfolding apart_line
returns c = search (rules, IfOk-equal, append_assoc)
