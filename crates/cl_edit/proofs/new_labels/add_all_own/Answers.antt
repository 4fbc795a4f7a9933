use Rattle.cl_edit.proofs.AgreeFacts.{agreed_label}
use Rattle.cl_edit.proofs.new_labels.add_all_own.Goals as goal

pub loop-label-preserved : goal.loop-label-preserved
loop-label-preserved c =
    agreed_label c.args.own.now c.args.among.now c.loop-label.among c.add_own.new.among c.args.labels.now c.loop-label.label-index c.label-item.result c.loop-label.invariant c.loop-label-test.true c.label-item.is c.in_ok-add_own.ensures
