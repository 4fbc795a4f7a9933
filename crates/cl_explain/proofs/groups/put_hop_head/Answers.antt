use Rattle.std.proofs.Common.{rules}
use Rattle.std.proofs.lemmas.List.{append_assoc}
use Rattle.std.proofs.lemmas.Result.{IfOk-equal}
use Rattle.cl_explain.specs.Explanation.{hop_head}
use Rattle.cl_explain.proofs.groups.put_hop_head.Goals as goal

pub returns : goal.returns
unfolding hop_head
returns c = search (rules, IfOk-equal, append_assoc)
