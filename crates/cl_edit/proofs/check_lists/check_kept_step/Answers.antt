use Rattle.std.proofs.Common.{sym, ap, ◌∙◌}
use Rattle.std.specs.List.{list_any}
use Rattle.cl_model.specs.{declared.{refusal.Code.TheVariants.M44, task.RunnableDef.RunnableDef}, Named.same_name}
use Rattle.cl_model.proofs.ListFacts.{list_any-map}
use Rattle.cl_edit.proofs.ListAnswers.{answers_when}
use Rattle.cl_edit.proofs.check_lists.check_kept_step.Goals as goal

pub returns : goal.returns
returns c =
    answers_when c.refuse_when.result c.has_runnable-is_dropped.result _ M44 c.at_spot.result _
    (c.has_runnable-is_dropped.ensures ∙ ap (λ rs. list_any (λ (r : RunnableDef). same_name c.args.name.now r.name) rs) c.as_slice.ensures
    ∙ sym (list_any-map (same_name c.args.name.now) (λ (r : RunnableDef). r.name) c.args.task.now.runnables))
    c.at_spot.ensures c.refuse_when.ensures
