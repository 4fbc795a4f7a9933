use Rattle.std.proofs.Common.{◌≡◌, length, map}
use Rattle.std.specs.List.{range_with_len}
use Rattle.cl_model.specs.ByNumber.{tasks_of_core_below}
use Rattle.cl_model.proofs.look_ups.tasks_of_cores.Given as goal

-- the tasks so far are put on their cores
abbrev pub invariant-loop-task : goal.invariant-loop-task
invariant-loop-task l = l.lists.items ≡ map (tasks_of_core_below l.model l.task) (range_with_len 0 (length l.model.cores))
