use Rattle.std.proofs.Common.{rules}
use Rattle.std.proofs.lemmas.List.{append_assoc}
use Rattle.std.proofs.lemmas.Result.{IfOk-equal}
use Rattle.cl_observe.specs.Observed.{shown_line}
use Rattle.cl_observe.proofs.task_lines.put_shown.Goals as goal

pub returns : goal.returns
unfolding shown_line
returns c = search (rules, IfOk-equal, append_assoc)
