use Rattle.cl_edit.proofs.AgreeFacts.{own_more}
use Rattle.cl_edit.proofs.new_labels.own_labels.Goals as goal

pub loop-runnable-preserved : goal.loop-runnable-preserved
loop-runnable-preserved c =
    own_more c.loop-runnable.own c.add_all.new.names c.add_all-in-loop-runnable.new.names c.args.runnables.now c.loop-runnable.runnable-index c.runnable-item.result c.as_slice.result.now c.as_slice-in-loop-runnable.result.now
    c.loop-runnable.invariant c.loop-runnable-test.true c.runnable-item.is c.as_slice.ensures c.as_slice-in-loop-runnable.ensures c.in_ok-add_all.ensures c.in_ok-add_all-2.ensures
