use Rattle.std.proofs.Common.{ℕ, List, subst}
use Rattle.cl_why.specs.Reasons.{IsReasonOfTask, Appends}
use Rattle.cl_why.proofs.reasons.why_task.Goals as goal

pub returns : goal.returns
returns c =
    subst (λ (text : List ℕ). Appends (IsReasonOfTask c.args.model.now c.args.task) text c.put_reason_of_task.new.text)
    c.in_ok-text.ensures c.in_ok-put_reason_of_task.ensures.text
