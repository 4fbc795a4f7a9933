use Rattle.std.proofs.Common.{ℕ, ◌<◌, ◌++◌, length, ap, ◌∙◌, arith}
use Rattle.cl_text.proofs.MoreLines.{line_more}
use Rattle.cl_verify.specs.{declared.decision.TaskDecision.TaskDecision, Decisions.task_decision_at, VerifyText.task_decision_line}
use Rattle.cl_verify.proofs.DecisionLines.{task_decision_found}
use Rattle.cl_verify.proofs.text.put_tasks.Goals as goal

pub loop-task-preserved : goal.loop-task-preserved
loop-task-preserved c =
    let i = c.loop-task.task in
    let within : i < length c.args.decisions.now = omega (arith, c.loop-task-test.true, c.loop-task.auto.task-end, c.tasks-task-end.ensures.count, c.requires) in
    let found = task_decision_found c.args.decisions.now c.as_slice.result.now i _ within c.as_slice.ensures in
    line_more (λ (task : ℕ). task_decision_line c.args.model.now (task_decision_at c.args.decisions.now task) task)
    c.args.text.now c.loop-task.text c.put_task.new.text i c.loop-task.invariant
    (c.in_ok-put_task.ensures ∙ ap (λ (decision : TaskDecision). c.loop-task.text ++ task_decision_line c.args.model.now decision i) found)
