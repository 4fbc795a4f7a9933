use Rattle.cl_valid.proofs.AddedNames.{new_more}
use Rattle.cl_valid.proofs.runnables.add_written.Goals as goal

pub loop-label-preserved : goal.loop-label-preserved
loop-label-preserved c =
    new_more c.args.written.now c.args.labels.now c.loop-label.label-index c.label-item.result c.loop-label.written c.add.new.self c.requires c.loop-label.invariant c.loop-label-test.true c.label-item.is c.in_ok-add.ensures.ok
