use Rattle.std.proofs.Common.{rules}
use Rattle.std.proofs.lemmas.List.{append_assoc}
use Rattle.std.proofs.lemmas.Result.{IfOk-equal}
use Rattle.cl_why.specs.Reasons.{bound_line}
use Rattle.cl_why.proofs.reasons.put_bound.Goals as goal

pub returns : goal.returns
unfolding bound_line
returns c = search (rules, IfOk-equal, append_assoc)
