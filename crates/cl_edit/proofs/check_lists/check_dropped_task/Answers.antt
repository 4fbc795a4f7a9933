use Rattle.std.proofs.Common.{sym, ap, ◌∙◌}
use Rattle.cl_model.specs.{declared.model.SystemModel.SystemModel, ByNumber.task_at, Refusals.each}
use Rattle.cl_edit.specs.FewListChecks.{kept_steps_check}
use Rattle.cl_edit.proofs.{FewAnswers.passes_as, TaskRemoval.dropped_task_refused}
use Rattle.cl_edit.proofs.check_lists.check_dropped_task.Goals as goal

pub returns : goal.returns
returns c =
    let model = c.args.model.now in
    passes_as c.check_kept_chains.result _ _
    (dropped_task_refused model c.requires.valid c.args.task c.requires.task
    ∙ sym (ap (each (kept_steps_check (task_at model c.args.task))) (c.as_slice.ensures ∙ ap (λ (m : SystemModel). m.chains) c.plain.ensures.plain))) c.check_kept_chains.ensures
