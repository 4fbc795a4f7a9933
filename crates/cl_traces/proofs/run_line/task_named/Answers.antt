use Rattle.std.proofs.Common.{Some, None, ap, ◌∙◌}
use Rattle.cl_model.specs.declared.model.SystemModel.{SystemModel}
use Rattle.cl_traces.proofs.TasksByName.{named_by}
use Rattle.cl_traces.proofs.run_line.task_named.Goals as goal

pub returns-in_err-place-clause-number : goal.returns-in_err-place-clause-number
returns-in_err-place-clause-number c =
    c.from_residual.ensures
    ∙ named_by c.args.model.now c.args.word.now c.as_slice.result.now (c.as_slice.ensures ∙ ap (λ (m : SystemModel). m.tasks) c.plain.ensures.plain)
    None c.in_err-place.ensures

pub returns-clause-number : goal.returns-clause-number
returns-clause-number c =
    named_by c.args.model.now c.args.word.now c.as_slice.result.now (c.as_slice.ensures ∙ ap (λ (m : SystemModel). m.tasks) c.plain.ensures.plain)
    (Some c.in_ok-place.place) c.in_ok-place.ensures
