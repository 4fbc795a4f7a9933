use Rattle.std.proofs.Common.{List, subst}
use Rattle.cl_model.specs.{declared.refusal.Refusal.Refusal, Answers.Answers}
use Rattle.cl_edit.proofs.NewTaskChecks.{deadline_asked}
use Rattle.cl_edit.proofs.new_deadlines.check_deadline.Goals as goal

pub returns : goal.returns
returns c =
    subst (λ (refusals : List Refusal). Answers c.refuse_when.result refusals tt)
    (deadline_asked c.args.model.now c.args.task.now c.args.i c.is_late-is_late.result c.task_key.result c.args.tasks.now c.requires.item c.requires.tasks c.is_late-is_late.ensures c.task_key.ensures)
    c.refuse_when.ensures
