use Rattle.std.proofs.Common.{sym, ap, ◌∙◌}
use Rattle.cl_model.specs.declared.model.SystemModel.{SystemModel}
use Rattle.cl_edit.proofs.{FewAnswers.passes_as, NewTaskChecks.{few_counted, all_is}, TaskAdded.new_task_refused}
use Rattle.cl_edit.proofs.check_new_task.check_new_task.Goals as goal

pub check_all-requires-clause-runnables : goal.check_all-requires-clause-runnables
check_all-requires-clause-runnables c = few_counted c.args.model.now c.plain.ensures.valid

pub returns : goal.returns
returns c =
    let model = c.args.model.now in
    let task = c.args.task.now in
    passes_as c.check_all.result _ _
    (new_task_refused model c.plain.ensures.valid task
    ∙ sym (all_is model c.as_slice.result.now c.kind_named-kind.result task (c.as_slice.ensures ∙ ap (λ (m : SystemModel). m.tasks) c.plain.ensures.plain) c.kind_named-kind.ensures)) c.check_all.ensures
