use Rattle.std.proofs.Common.{sym, ◌∙◌}
use Rattle.cl_model.specs.{declared.{model.CoreDef.CoreDef, refusal.Code.TheVariants.M29}, Named.same_name}
use Rattle.cl_model.proofs.ListFacts.{list_any-map}
use Rattle.cl_edit.proofs.ListAnswers.{answers_unless}
use Rattle.cl_edit.proofs.check_new_task.check_core.Goals as goal

pub returns : goal.returns
returns c =
    answers_unless c.refuse_unless.result c.is_core-is_known.result _ M29 c.task_key.result _
    (c.is_core-is_known.ensures ∙ sym (list_any-map (same_name c.args.task.now.core) (λ (core : CoreDef). core.name) c.args.cores.now))
    c.task_key.ensures c.refuse_unless.ensures
