use Rattle.cl_edit.proofs.AgreeFacts.{added_label}
use Rattle.cl_edit.proofs.new_labels.add_all.Goals as goal

pub loop-label-preserved : goal.loop-label-preserved
loop-label-preserved c =
    added_label c.args.names.now c.args.names.now c.loop-label.names c.add.new.self c.args.labels.now c.loop-label.label-index c.label-item.result c.loop-label.invariant c.loop-label-test.true c.label-item.is c.in_ok-add.ensures.ok
