use Rattle.std.proofs.Common.{◌≡◌, take}
use Rattle.cl_model.specs.Inner.StepTable.{steps_from}
use Rattle.cl_model.proofs.groups.steps_of_tasks.Given as goal

-- the steps of the tasks so far
abbrev pub invariant-loop-i : goal.invariant-loop-i
invariant-loop-i l = l.steps.items ≡ steps_from 0 (take l.i l.tasks)
