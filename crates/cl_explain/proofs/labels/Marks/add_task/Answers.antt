use Rattle.std.proofs.Common.{◌≡◌, ◌+◌, List, [], ◌∷◌, ◌++◌, take, sym, ap, ◌∙◌, subst}
use Rattle.std.proofs.lemmas.List.{append_assoc, take_more}
use Rattle.cl_model.specs.declared.task.RunnableDef.{RunnableDef}
use Rattle.cl_explain.specs.Inner.Marks.{AreMarksOf}
use Rattle.cl_explain.proofs.MarkedLabels.{marks_more}
use Rattle.cl_explain.proofs.labels.Marks.add_task.Goals as goal

pub loop-runnable-preserved : goal.loop-runnable-preserved
loop-runnable-preserved c =
    let items = c.as_slice-runnable-items.result.now in
    let i = c.loop-runnable.runnable-index in
    let one = c.runnable-item.result in
    λ before are.
    let so_far = take i items in
    let more : (before ++ so_far) ++ one ∷ [] ≡ before ++ take (i + 1) items =
    append_assoc before so_far (one ∷ []) ∙ ap (λ (rs : List RunnableDef). before ++ rs)
    (ap (λ (r : RunnableDef). so_far ++ r ∷ []) c.runnable-item.is ∙ sym (take_more items i one c.loop-runnable-test.true)) in
    subst (λ (rs : List RunnableDef). AreMarksOf rs c.add_runnable.new.self) more
    (marks_more (before ++ so_far) one c.loop-runnable.self c.add_runnable.new.self (c.loop-runnable.invariant before are) c.in_ok-add_runnable.ensures)
