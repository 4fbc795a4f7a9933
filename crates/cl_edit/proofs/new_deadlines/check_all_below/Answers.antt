use Rattle.std.proofs.lemmas.Result.{err_from_is_err_and}
use Rattle.cl_model.proofs.FirstRefusals.{next_refused}
use Rattle.cl_edit.specs.FewListChecks.{below_new_check}
use Rattle.cl_edit.proofs.new_deadlines.check_all_below.Goals as goal

pub returns-in_err-check_below : goal.returns-in_err-check_below
returns-in_err-check_below c =
    let p = err_from_is_err_and c.from_residual.result c.from_residual.ensures.1 in rw (p.1, p.2)
    (next_refused (below_new_check c.args.model.now c.args.new.now) c.args.tasks.now c.loop-i.i c.index-tasks-i.result c.loop-i-test.true c.index-tasks-i.is c.in_err-check_below.field-0.0 c.loop-i.invariant c.in_err-check_below.ensures)
