use Rattle.std.proofs.Common.{take}
use Rattle.cl_model.specs.Named.{labels_written, all_runnables}
use Rattle.cl_edit.specs.Inner.NewTasks.{AgreeOn}
use Rattle.cl_edit.proofs.new_labels.written_among.Given as goal

-- those among what the tasks so far write are there
abbrev pub invariant-loop-task : goal.invariant-loop-task
invariant-loop-task l = AgreeOn l.own l.among (labels_written (all_runnables (take l.task-index l.tasks)))
