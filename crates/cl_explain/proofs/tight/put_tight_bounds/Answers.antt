use Rattle.std.proofs.Common.{rules}
use Rattle.std.proofs.lemmas.List.{append_assoc}
use Rattle.std.proofs.lemmas.Result.{IfOk-equal}
use Rattle.cl_explain.specs.Explanation.{tight_line}
use Rattle.cl_explain.proofs.tight.put_tight_bounds.Goals as goal

pub returns : goal.returns
unfolding tight_line
returns c = search (rules, IfOk-equal, append_assoc)
