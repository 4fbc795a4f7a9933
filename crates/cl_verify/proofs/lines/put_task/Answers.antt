use Rattle.std.proofs.Common.{rules}
use Rattle.std.proofs.lemmas.List.{append_assoc}
use Rattle.std.proofs.lemmas.Result.{IfOk-equal}
use Rattle.cl_verify.specs.VerifyText.{task_decision_line}
use Rattle.cl_verify.proofs.lines.put_task.Goals as goal

pub returns : goal.returns
unfolding task_decision_line
returns c = search (rules, IfOk-equal, append_assoc)
