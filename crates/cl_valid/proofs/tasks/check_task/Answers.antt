use Rattle.std.proofs.Common.{◌+◌, set, get_or, take, [], ◌∷◌, ◌++◌, refl, sym, ap, ◌∙◌}
use Rattle.std.proofs.lemmas.Option.{slice_get_within, get_or_from_slice_get}
use Rattle.std.proofs.lemmas.Result.{err_from_is_err_and}
use Rattle.cl_model.specs.declared.place.Part.TheVariants as part
use Rattle.cl_model.specs.{Named.{core_names, label_names, labels_written, all_runnables}, Place.entry_of, ValidTasks.{naming_checks, body_checks, count_check, task_check}}
use Rattle.cl_model.proofs.FirstRefusals.{fault_of_front, fault_of_back, none_of_both}
use Rattle.cl_valid.specs.declared.{names.Names.Names, tasks.TasksSoFar.TasksSoFar}
use Rattle.cl_valid.proofs.{TasksByShare.shares_more, UsesByTask.{count_is, kept_is, labels_of_more, uses_of_more}}
use Rattle.cl_valid.proofs.tasks.check_task.Goals as goal

pub returns-clause-kept : goal.returns-clause-kept
returns-clause-kept c =
    let within = slice_get_within c.args.model.now.tasks c.args.i c.args.task.now c.requires.task in
    let is = sym (get_or_from_slice_get c.args.model.now.tasks c.args.i c.args.task.now c.args.task.now c.requires.task) in
    kept_is c.args.model.now (take (c.args.i + 1) c.args.model.now.tasks) _ _ _
    (shares_more c.args.model.now c.args.model.now.tasks c.args.i c.args.task.now c.in_ok-core.core (core_names c.args.model.now) c.args.kept.now.shares c.put.new.self c.requires.apart within is c.in_ok-core.ensures.core (ap (λ (k : TasksSoFar). k.shares) c.requires.kept)
    (c.in_ok-put.ensures ∙ ap (λ s. set c.args.kept.now.shares c.in_ok-core.core (get_or c.args.kept.now.shares c.in_ok-core.core [] ++ s ∷ [])) c.in_ok-core.ensures.share))
    (labels_of_more c.args.model.now.tasks c.args.i c.args.task.now c.args.kept.now.uses.written c.check_body.new.uses.written within is (ap (λ (k : TasksSoFar). k.uses.written) c.requires.kept) c.in_ok-check_body.ensures.written)
    (uses_of_more c.args.model.now.tasks c.args.i c.args.task.now c.args.kept.now.uses.each c.check_body.new.uses.each within is (ap (λ (k : TasksSoFar). k.uses.each) c.requires.kept) c.in_ok-check_body.ensures.each)

pub returns-in_err-core-clause-checked : goal.returns-in_err-core-clause-checked
unfolding task_check
returns-in_err-core-clause-checked c =
    let p = err_from_is_err_and c.from_residual.result c.from_residual.ensures.1 in rw (p.1, p.2)
    (fault_of_front (naming_checks c.args.model.now c.args.i c.args.task.now) _ c.in_err-core.field-0.0 c.in_err-core.ensures.checked)

pub returns-in_err-check_body-clause-checked : goal.returns-in_err-check_body-clause-checked
unfolding task_check
returns-in_err-check_body-clause-checked c =
    let p = err_from_is_err_and c.from_residual-in_err-check_body.result c.from_residual-in_err-check_body.ensures.1 in rw (p.1, p.2)
    (fault_of_back _ _ c.in_err-check_body.field-0.0 c.in_ok-core.ensures.checked
    (fault_of_front (body_checks (label_names c.args.model.now) (labels_written (all_runnables (take c.args.i c.args.model.now.tasks)))
    (entry_of part.Task c.args.i) c.args.task.now) _ c.in_err-check_body.field-0.0
    (rw (ap (λ (n : Names). n.labels) c.requires.names, ap (λ (k : TasksSoFar). k.uses.written) c.requires.kept, c.entry_of-place.ensures) at c.in_err-check_body.ensures.checked)))

pub returns-in_err-refuse_when-clause-checked : goal.returns-in_err-refuse_when-clause-checked
unfolding task_check
returns-in_err-refuse_when-clause-checked c =
    let p = err_from_is_err_and c.from_residual-in_err-refuse_when.result c.from_residual-in_err-refuse_when.ensures.1 in rw (p.1, p.2)
    (fault_of_back _ _ c.in_err-refuse_when.field-0.0 c.in_ok-core.ensures.checked
    (fault_of_back _ _ c.in_err-refuse_when.field-0.0 (rw (ap (λ (n : Names). n.labels) c.requires.names, ap (λ (k : TasksSoFar). k.uses.written) c.requires.kept, c.entry_of-place.ensures) at c.in_ok-check_body.ensures.checked.0)
    (fault_of_front (count_check c.args.model.now c.args.i) _ c.in_err-refuse_when.field-0.0
    (rw (count_is c.args.model.now c.args.i c.args.task.now c.len-too_many.result c.args.kept.now.uses.each c.check_body.new.uses.each c.entry_of-place.result
    (slice_get_within c.args.model.now.tasks c.args.i c.args.task.now c.requires.task)
    (sym (get_or_from_slice_get c.args.model.now.tasks c.args.i c.args.task.now c.args.task.now c.requires.task))
    (ap (λ (k : TasksSoFar). k.uses.each) c.requires.kept) c.in_ok-check_body.ensures.each c.len-too_many.ensures c.entry_of-place.ensures) at c.in_err-refuse_when.ensures))))

pub returns-clause-checked : goal.returns-clause-checked
unfolding task_check
returns-clause-checked c = (
  none_of_both _ _ c.in_ok-core.ensures.checked
      (none_of_both _ _ (rw (ap (λ (n : Names). n.labels) c.requires.names, ap (λ (k : TasksSoFar). k.uses.written) c.requires.kept, c.entry_of-place.ensures) at c.in_ok-check_body.ensures.checked.0)
      (none_of_both _ _ (sym (count_is c.args.model.now c.args.i c.args.task.now c.len-too_many.result c.args.kept.now.uses.each c.check_body.new.uses.each c.entry_of-place.result
      (slice_get_within c.args.model.now.tasks c.args.i c.args.task.now c.requires.task)
      (sym (get_or_from_slice_get c.args.model.now.tasks c.args.i c.args.task.now c.args.task.now c.requires.task))
      (ap (λ (k : TasksSoFar). k.uses.each) c.requires.kept) c.in_ok-check_body.ensures.each c.len-too_many.ensures c.entry_of-place.ensures)
      ∙ c.in_ok-refuse_when.ensures.0) refl)),
  refl,
)
