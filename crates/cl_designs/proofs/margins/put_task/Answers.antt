use Rattle.std.proofs.Common.{rules}
use Rattle.std.proofs.lemmas.List.{append_assoc}
use Rattle.std.proofs.lemmas.Result.{IfOk-equal}
use Rattle.cl_designs.specs.Margins.{margin_line}
use Rattle.cl_designs.proofs.margins.put_task.Goals as goal

pub returns : goal.returns
unfolding margin_line
returns c = search (rules, IfOk-equal, append_assoc)
