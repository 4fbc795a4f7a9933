use Rattle.std.proofs.lemmas.Result.{err_from_is_err_and}
use Rattle.cl_model.specs.{ValidNames.stimulus_checks, ValidTasks.task_checks}
use Rattle.cl_model.proofs.FirstRefusals.{fault_of_front, fault_of_back, answers_behind}
use Rattle.cl_valid.proofs.validation.check_parts.Goals as goal

pub returns-in_err-check_stimuli : goal.returns-in_err-check_stimuli
returns-in_err-check_stimuli c =
    let p = err_from_is_err_and c.from_residual.result c.from_residual.ensures.1 in rw (p.1, p.2)
    (fault_of_front (stimulus_checks c.args.model.now) _ c.in_err-check_stimuli.field-0.0 c.in_err-check_stimuli.ensures)

pub returns-in_err-kept : goal.returns-in_err-kept
returns-in_err-kept c =
    let p = err_from_is_err_and c.from_residual-in_err-kept.result c.from_residual-in_err-kept.ensures.1 in rw (p.1, p.2)
    (fault_of_back _ _ c.in_err-kept.field-0.0 c.in_ok-check_stimuli.ensures.0 (fault_of_front (task_checks c.args.model.now) _ c.in_err-kept.field-0.0 c.in_err-kept.ensures))

pub check_links-requires-clause-passed : goal.check_links-requires-clause-passed
check_links-requires-clause-passed c = c.in_ok-kept.ensures.0

pub check_links-requires-clause-kept : goal.check_links-requires-clause-kept
check_links-requires-clause-kept c = c.in_ok-kept.ensures.1

pub returns : goal.returns
returns c = answers_behind c.check_links.result _ _ _ c.in_ok-check_stimuli.ensures.0 (answers_behind c.check_links.result _ _ _ c.in_ok-kept.ensures.0 c.check_links.ensures)
