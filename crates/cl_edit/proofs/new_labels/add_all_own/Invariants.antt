use Rattle.std.proofs.Common.{◌++◌, take}
use Rattle.cl_edit.specs.Inner.NewTasks.{AgreeOn}
use Rattle.cl_edit.proofs.new_labels.add_all_own.Given as goal

-- those among the labels so far are added
abbrev pub invariant-loop-label : goal.invariant-loop-label
invariant-loop-label l = AgreeOn l.own l.among (l.fn.among ++ take l.label-index l.labels)
