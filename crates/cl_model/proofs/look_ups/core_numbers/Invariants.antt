use Rattle.std.proofs.Common.{◌≡◌, map, take}
use Rattle.cl_model.specs.ByNumber.{core_number}
use Rattle.cl_model.proofs.look_ups.core_numbers.Given as goal

-- the numbers of the tasks so far
abbrev pub invariant-loop-task : goal.invariant-loop-task
invariant-loop-task l = l.numbers.items ≡ map (core_number l.model) (take l.task-index l.task-items)
