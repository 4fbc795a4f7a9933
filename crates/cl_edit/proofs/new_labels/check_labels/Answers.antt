use Rattle.std.proofs.Common.{ap, ◌∙◌}
use Rattle.cl_model.specs.declared.model.SystemModel.{SystemModel}
use Rattle.cl_edit.proofs.AgreeFacts.{labels_asked}
use Rattle.cl_edit.proofs.new_labels.check_labels.Goals as goal

pub returns : goal.returns
returns c =
    labels_asked c.args.model.now c.args.task.now c.args.place c.as_slice-2.result.now c.as_slice-3.result.now c.as_slice.result.now c.in_ok-own.own c.in_ok-known.known c.in_ok-written.written c.check_runnables.result
    (c.as_slice-2.ensures ∙ ap (λ (m : SystemModel). m.labels) c.plain-plain.ensures.plain) (c.as_slice-3.ensures ∙ ap (λ (m : SystemModel). m.tasks) c.plain-plain.ensures.plain) c.as_slice.ensures
    c.in_ok-own.ensures c.in_ok-known.ensures c.in_ok-written.ensures c.check_runnables.ensures
