use Rattle.std.proofs.Common.{refl}
use Rattle.cl_model.specs.declared.model.LabelDef.{LabelDef}
use Rattle.cl_edit.proofs.AgreeFacts.{named_label}
use Rattle.cl_edit.proofs.new_labels.labels_among.Goals as goal

pub loop-label-preserved : goal.loop-label-preserved
loop-label-preserved c =
    named_label (λ (label : LabelDef). label.name) c.args.own.now c.loop-label.among c.add_own.new.among c.args.labels.now c.loop-label.label-index c.label-item.result c.label-item.result.name c.loop-label.invariant c.loop-label-test.true c.label-item.is refl
    c.in_ok-add_own.ensures
