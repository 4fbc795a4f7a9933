use Rattle.std.proofs.Common.{◌≡◌, ◌++◌, take, drop, map}
use Rattle.cl_model.specs.TaskNumbers.{number_without}
use Rattle.cl_model.proofs.task_numbers.renumber_tasks.Given as goal

-- those so far have their new numbers
abbrev pub invariant-loop-place : goal.invariant-loop-place
invariant-loop-place l = l.tasks ≡ map (number_without l.gone) (take l.place l.fn.tasks) ++ drop l.place l.fn.tasks
