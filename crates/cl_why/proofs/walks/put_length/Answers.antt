use Rattle.std.proofs.Common.{rules}
use Rattle.std.proofs.lemmas.List.{append_assoc}
use Rattle.std.proofs.lemmas.Result.{IfOk-equal}
use Rattle.cl_why.specs.Walks.{why_length_line}
use Rattle.cl_why.proofs.walks.put_length.Goals as goal

pub returns : goal.returns
unfolding why_length_line
returns c = search (rules, IfOk-equal, append_assoc)
