use Rattle.std.proofs.Common.{◌≡◌, map, take}
use Rattle.cl_model.specs.declared.task.TaskDef.{TaskDef}
use Rattle.cl_edit.proofs.check_priorities.priorities_of.Given as goal

-- the priorities of the tasks so far
abbrev pub invariant-loop-task : goal.invariant-loop-task
invariant-loop-task l = l.priorities.items ≡ map (λ (task : TaskDef). task.priority) (take l.task-index l.tasks)
