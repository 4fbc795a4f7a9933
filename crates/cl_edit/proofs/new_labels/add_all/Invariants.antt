use Rattle.std.proofs.Common.{◌++◌, take}
use Rattle.cl_edit.specs.Inner.NewTasks.{AreAlike}
use Rattle.cl_edit.proofs.new_labels.add_all.Given as goal

-- the labels so far are added
abbrev pub invariant-loop-label : goal.invariant-loop-label
invariant-loop-label l = AreAlike l.names (l.fn.names ++ take l.label-index l.labels)
