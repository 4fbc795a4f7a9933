use Rattle.std.proofs.Common.{sym, ◌∙◌}
use Rattle.std.specs.Prelude.{◌==◌}
use Rattle.cl_model.specs.{declared.{refusal.Code.TheVariants.M31, task.TaskDef.TaskDef}, Named.same_name}
use Rattle.cl_edit.proofs.{ListAnswers.answers_when, TaskLists.list_any-filter}
use Rattle.cl_edit.proofs.check_new_task.check_priority.Goals as goal

pub returns : goal.returns
returns c =
    answers_when c.refuse_when.result c.has_priority-is_taken.result _ M31 c.task_key.result _
    (c.has_priority-is_taken.ensures
    ∙ sym (list_any-filter (λ (other : TaskDef). other.priority == c.args.task.now.priority) (λ (other : TaskDef). same_name c.args.task.now.core other.core) c.args.tasks.now))
    c.task_key.ensures c.refuse_when.ensures
