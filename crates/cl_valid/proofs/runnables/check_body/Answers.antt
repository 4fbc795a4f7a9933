use Rattle.std.proofs.Common.{sym, ◌∙◌}
use Rattle.std.proofs.lemmas.Result.{err_from_is_err_and}
use Rattle.cl_model.specs.ValidTasks.{body_check}
use Rattle.cl_model.proofs.FirstRefusals.{next_passes, next_refused}
use Rattle.cl_valid.proofs.UsesByTask.{step_is, written_more, uses_more}
use Rattle.cl_valid.proofs.runnables.check_body.Goals as goal

pub loop-p-preserved : goal.loop-p-preserved
loop-p-preserved c = record {
  rest =
      next_passes (body_check c.args.known.now c.args.uses.now.written c.args.place c.args.task.now) c.args.task.now.runnables c.loop-p.p c.index-runnables-p.result
      (rw c.as_slice-runnables.ensures at c.loop-p-test.true) (rw c.as_slice-runnables.ensures at c.index-runnables-p.is) c.loop-p.invariant.rest
      (sym (step_is c.args.known.now c.args.uses.now.written c.loop-p.uses.written c.args.place c.at_sub.result c.args.task.now c.as_slice-runnables.result.now c.loop-p.p c.index-runnables-p.result c.as_slice-runnables.ensures c.loop-p.invariant.written c.at_sub.ensures)
      ∙ c.in_ok-label_use.ensures.checked.0);
  written =
      written_more c.args.uses.now.written c.loop-p.uses.written c.add_written.new.written c.as_slice-runnables.result.now c.loop-p.p c.index-runnables-p.result c.as_slice.result.now c.loop-p.invariant.written c.loop-p-test.true c.index-runnables-p.is c.as_slice.ensures c.in_ok-add_written.ensures;
  each =
      uses_more c.args.uses.now.each c.loop-p.uses.each c.push.new.self c.as_slice-runnables.result.now c.loop-p.p c.index-runnables-p.result c.in_ok-label_use.label_use c.loop-p.invariant.each c.loop-p-test.true c.index-runnables-p.is c.in_ok-label_use.ensures.checked.1 c.in_ok-push.ensures.ok;
}

pub returns-in_err-label_use-clause-checked : goal.returns-in_err-label_use-clause-checked
returns-in_err-label_use-clause-checked c =
    let p = err_from_is_err_and c.from_residual.result c.from_residual.ensures.1 in rw (p.1, p.2)
    (next_refused (body_check c.args.known.now c.args.uses.now.written c.args.place c.args.task.now) c.args.task.now.runnables c.loop-p.p c.index-runnables-p.result
    (rw c.as_slice-runnables.ensures at c.loop-p-test.true)
    (rw c.as_slice-runnables.ensures at c.index-runnables-p.is) c.in_err-label_use.field-0.0 c.loop-p.invariant.rest
    (rw (step_is c.args.known.now c.args.uses.now.written c.loop-p.uses.written
    c.args.place c.at_sub.result c.args.task.now c.as_slice-runnables.result.now c.loop-p.p
    c.index-runnables-p.result c.as_slice-runnables.ensures c.loop-p.invariant.written c.at_sub.ensures) at c.in_err-label_use.ensures.checked))
