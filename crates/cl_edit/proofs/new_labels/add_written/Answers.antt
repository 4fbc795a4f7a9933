use Rattle.cl_model.specs.declared.task.RunnableDef.{RunnableDef}
use Rattle.cl_edit.proofs.AgreeFacts.{agreed_part}
use Rattle.cl_edit.proofs.new_labels.add_written.Goals as goal

pub loop-runnable-preserved : goal.loop-runnable-preserved
loop-runnable-preserved c =
    agreed_part c.args.own.now c.args.among.now c.loop-runnable.among c.add_all_own.new.among (λ (r : RunnableDef). r.writes) c.args.runnables.now c.loop-runnable.runnable-index c.runnable-item.result c.as_slice.result.now
    c.loop-runnable.invariant c.loop-runnable-test.true c.runnable-item.is c.as_slice.ensures c.in_ok-add_all_own.ensures
