use Rattle.std.proofs.Common.{take}
use Rattle.cl_edit.specs.Inner.NewTasks.{labels_of, AreAlike}
use Rattle.cl_edit.proofs.new_labels.own_labels.Given as goal

-- those of the runnables so far are there
abbrev pub invariant-loop-runnable : goal.invariant-loop-runnable
invariant-loop-runnable l = AreAlike l.own (labels_of (take l.runnable-index l.runnables))
