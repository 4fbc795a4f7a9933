use Rattle.std.proofs.Common.{◌≡◌, ◌++◌, take, drop, map}
use Rattle.cl_model.specs.TaskNumbers.{group_without}
use Rattle.cl_model.proofs.task_numbers.renumber_chains.Given as goal

-- those so far have their new numbers
abbrev pub invariant-loop-groups : goal.invariant-loop-groups
invariant-loop-groups l = l.groups-items ≡ map (map (group_without l.gone)) (take l.groups-index l.fn.chains.items) ++ drop l.groups-index l.fn.chains.items
