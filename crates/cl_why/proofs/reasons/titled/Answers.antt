use Rattle.std.proofs.Common.{rules}
use Rattle.std.proofs.lemmas.List.{append_assoc}
use Rattle.std.proofs.lemmas.Result.{IfOk-equal}
use Rattle.cl_why.specs.Reasons.{title}
use Rattle.cl_why.proofs.reasons.titled.Goals as goal

pub returns : goal.returns
unfolding title
returns c = search (rules, IfOk-equal, append_assoc)
