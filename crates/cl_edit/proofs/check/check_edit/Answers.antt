use Rattle.std.proofs.Common.{sym, ◌∙◌}
use Rattle.std.proofs.lemmas.Result.{err_from_is_err_and}
use Rattle.cl_model.specs.Validity.{refusals_of}
use Rattle.cl_model.proofs.FirstRefusals.{none_of_both}
use Rattle.cl_edit.specs.Edited.{edit_checks, with_edit}
use Rattle.cl_edit.proofs.ResolvedEdits.{known_change, changed_is, may_be_made, refused_behind}
use Rattle.cl_edit.proofs.check.check_edit.Goals as goal

-- what the change names is there
pub check_change-requires-clause-known : goal.check_change-requires-clause-known
check_change-requires-clause-known c = known_change c.args.model.now c.plain-valid.ensures.valid c.args.edit.now c.in_ok-change.change c.requires c.in_ok-change.ensures.0 c.in_ok-change.ensures.1

-- the checks of the edit itself pass before those of the changed model
pub returns-in_err-check_change-clause-change : goal.returns-in_err-check_change-clause-change
returns-in_err-check_change-clause-change c =
    let known = c.in_ok-change.ensures in
    let failed = err_from_is_err_and c.from_residual-in_err-check_change.result c.from_residual-in_err-check_change.ensures.1 in
    rw (failed.1, failed.2) (refused_behind c.args.model.now c.plain-valid.ensures.valid c.args.edit.now c.in_ok-change.change c.requires known.0 known.1 c.in_err-check_change.field-0.0 c.in_err-check_change.ensures)

pub returns-clause-change : goal.returns-clause-change
returns-clause-change c =
    let model = c.args.model.now in
    let edit = c.args.edit.now in
    let known = c.in_ok-change.ensures in (
      none_of_both (edit_checks model edit) (refusals_of (with_edit model edit)) known.0 (sym (changed_is model c.plain-valid.ensures.valid edit c.in_ok-change.change c.requires known.0 known.1) ∙ c.in_ok-check_change.ensures),
      known.1,
    )

pub returns-clause-may_be_made : goal.returns-clause-may_be_made
returns-clause-may_be_made c =
    may_be_made c.args.model.now c.plain-valid.ensures.valid c.args.edit.now c.in_ok-change.change c.requires c.in_ok-change.ensures.0 c.in_ok-change.ensures.1 c.in_ok-check_change.ensures
