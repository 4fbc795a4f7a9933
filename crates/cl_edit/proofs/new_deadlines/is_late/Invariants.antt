use Rattle.std.proofs.Common.{◌≡◌, drop}
use Rattle.std.specs.List.{list_any}
use Rattle.cl_edit.specs.Inner.NewTasks.{is_task_below}
use Rattle.cl_edit.proofs.new_deadlines.is_late.Given as goal

-- some task is above where one of the rest is
abbrev pub invariant-loop-i : goal.invariant-loop-i
invariant-loop-i l = list_any (is_task_below l.model l.new) l.tasks ≡ list_any (is_task_below l.model l.new) (drop l.i l.tasks)
