use Rattle.std.proofs.Common.{[], refl, sym, ap, ◌∙◌}
use Rattle.std.proofs.Math.ListN.{length-map}
use Rattle.std.proofs.lemmas.List.{take_all}
use Rattle.std.proofs.lemmas.Option.{slice_get_read}
use Rattle.std.proofs.lemmas.Result.{err_from_is_err_and}
use Rattle.cl_model.specs.ValidTasks.{task_check}
use Rattle.cl_model.proofs.FirstRefusals.{all_checked, next_passes, next_refused}
use Rattle.cl_valid.specs.Inner.Tables.{kept_of}
use Rattle.cl_valid.proofs.{TasksByShare.no_shares, UsesByTask.kept_is}
use Rattle.cl_valid.proofs.tasks.kept_tasks.Goals as goal

pub loop-i-init : goal.loop-i-init
loop-i-init c = record {
  kept =
      kept_is c.args.model.now [] _ _ _ (c.in_ok-shares.ensures ∙ no_shares c.args.model.now c.len-3.result (c.len-3.ensures ∙ sym (length-map c.args.model.now.cores (λ core. core.name)))) (c.reserve.ensures ∙ c.new-written.ensures) c.in_ok-each.ensures;
  rest = refl;
}

pub check_task-requires-clause-task : goal.check_task-requires-clause-task
check_task-requires-clause-task c =
    rw c.as_slice-tasks.ensures at (slice_get_read c.as_slice-tasks.result.now _ c.loop-i.i c.index-tasks-i.result refl c.loop-i-test.true c.index-tasks-i.is)

pub loop-i-preserved : goal.loop-i-preserved
loop-i-preserved c = record {
  kept = c.in_ok-check_task.ensures.kept;
  rest = next_passes (task_check c.args.model.now) c.args.model.now.tasks c.loop-i.i c.index-tasks-i.result (rw c.as_slice-tasks.ensures at c.loop-i-test.true) (rw c.as_slice-tasks.ensures at c.index-tasks-i.is) c.loop-i.invariant.rest c.in_ok-check_task.ensures.checked.0;
}

pub returns-in_err-check_task : goal.returns-in_err-check_task
returns-in_err-check_task c =
    let p = err_from_is_err_and c.from_residual-in_err-check_task.result c.from_residual-in_err-check_task.ensures.1 in rw (p.1, p.2)
    (next_refused (task_check c.args.model.now) c.args.model.now.tasks c.loop-i.i c.index-tasks-i.result (rw c.as_slice-tasks.ensures at c.loop-i-test.true) (rw c.as_slice-tasks.ensures at c.index-tasks-i.is) c.in_err-check_task.field-0.0 c.loop-i.invariant.rest c.in_err-check_task.ensures.checked)

pub returns : goal.returns
returns c =
    let past = rw c.as_slice-tasks.ensures at c.loop-i-test.false in
    (all_checked (task_check c.args.model.now) c.args.model.now.tasks c.loop-i.i c.loop-i.invariant.rest past, c.loop-i.invariant.kept ∙ ap (kept_of c.args.model.now) (take_all c.loop-i.i c.args.model.now.tasks past))
