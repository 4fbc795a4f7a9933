use Rattle.std.proofs.lemmas.Result.{err_from_is_err_and}
use Rattle.cl_model.specs.{ValidNames.name_checks, Validity.refusals_of}
use Rattle.cl_model.proofs.{FirstRefusals.{fault_of_front, answers_behind}, NamesApart.cores_differ}
use Rattle.cl_valid.proofs.validation.check.Goals as goal

pub returns-in_err-names : goal.returns-in_err-names
unfolding refusals_of
returns-in_err-names c =
    let p = err_from_is_err_and c.from_residual.result c.from_residual.ensures.1 in rw (p.1, p.2)
    (fault_of_front (name_checks c.args.model.now) _ c.in_err-names.field-0.0 c.in_err-names.ensures)

pub check_parts-requires-clause-apart : goal.check_parts-requires-clause-apart
check_parts-requires-clause-apart c = cores_differ c.args.model.now c.in_ok-names.ensures.0

pub check_parts-requires-clause-names : goal.check_parts-requires-clause-names
check_parts-requires-clause-names c = c.in_ok-names.ensures.1

pub returns : goal.returns
unfolding refusals_of
returns c = answers_behind c.check_parts.result _ _ _ c.in_ok-names.ensures.0 c.check_parts.ensures
