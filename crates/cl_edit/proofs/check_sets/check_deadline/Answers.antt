use Rattle.std.proofs.Common.{List, sym, subst}
use Rattle.cl_model.specs.{declared.refusal.Refusal.Refusal, Answers.Passes}
use Rattle.cl_edit.proofs.LimitChecks.{deadline_left}
use Rattle.cl_edit.proofs.check_sets.check_deadline.Goals as goal

-- M32, M33 and M42 are left to check
pub returns : goal.returns
returns c =
    subst (λ (refusals : List Refusal). Passes c.check_task.result refusals) (sym (deadline_left c.args.model.now c.requires.valid c.args.task c.args.deadline c.requires.task)) c.check_task.ensures
