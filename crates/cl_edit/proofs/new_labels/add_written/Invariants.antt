use Rattle.std.proofs.Common.{◌++◌, take}
use Rattle.cl_model.specs.Named.{labels_written}
use Rattle.cl_edit.specs.Inner.NewTasks.{AgreeOn}
use Rattle.cl_edit.proofs.new_labels.add_written.Given as goal

-- those among what the runnables so far write are added
abbrev pub invariant-loop-runnable : goal.invariant-loop-runnable
invariant-loop-runnable l = AgreeOn l.own l.among (l.fn.among ++ labels_written (take l.runnable-index l.runnables))
