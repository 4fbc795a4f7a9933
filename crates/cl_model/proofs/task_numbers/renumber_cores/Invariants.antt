use Rattle.std.proofs.Common.{◌≡◌, ◌++◌, take, drop, map}
use Rattle.cl_model.specs.TaskNumbers.{number_without}
use Rattle.cl_model.proofs.task_numbers.renumber_cores.Given as goal

-- those so far have their new numbers
abbrev pub invariant-loop-tasks : goal.invariant-loop-tasks
invariant-loop-tasks l = l.tasks-items ≡ map (map (number_without l.gone)) (take l.tasks-index l.fn.cores.items) ++ drop l.tasks-index l.fn.cores.items
