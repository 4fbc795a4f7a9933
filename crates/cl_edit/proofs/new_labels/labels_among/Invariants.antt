use Rattle.std.proofs.Common.{take, map}
use Rattle.cl_model.specs.declared.model.LabelDef.{LabelDef}
use Rattle.cl_edit.specs.Inner.NewTasks.{AgreeOn}
use Rattle.cl_edit.proofs.new_labels.labels_among.Given as goal

-- those among the labels so far are there
abbrev pub invariant-loop-label : goal.invariant-loop-label
invariant-loop-label l = AgreeOn l.own l.among (map (λ (label : LabelDef). label.name) (take l.label-index l.labels))
