use Rattle.std.proofs.Common.{sym, ap, ◌∙◌}
use Rattle.std.specs.Prelude.{Ok}
use Rattle.std.proofs.lemmas.Result.{err_from_is_err_and}
use Rattle.cl_edit.specs.{Changing.with_change, Edited.with_edit}
use Rattle.cl_edit.proofs.CheckedEdits.{gives_where_fault, made_where_passes}
use Rattle.cl_edit.proofs.make.edit_valid.Goals as goal

pub returns-in_err-change : goal.returns-in_err-change
returns-in_err-change c =
    let failed = err_from_is_err_and c.from_residual.result c.from_residual.ensures.1 in
    rw (failed.1, failed.2) (gives_where_fault c.args.model c.args.edit.now c.in_err-change.field-0.0 c.in_err-change.ensures.change)

-- the change that is made is the edit's
pub returns : goal.returns
unfolding with_edit
returns c =
    let known = c.in_ok-change.ensures.change in
    made_where_passes c.args.model c.args.edit.now known.0 ∙ ap Ok (sym (c.in_ok-make.ensures ∙ ap (with_change c.args.model) known.1))
