use Rattle.std.proofs.Common.{◌≡◌, map, take}
use Rattle.cl_model.specs.ByNumber.{greatest_time}
use Rattle.cl_model.proofs.look_ups.greatest_times.Given as goal

-- the times of the tasks so far
abbrev pub invariant-loop-task : goal.invariant-loop-task
invariant-loop-task l = l.times.items ≡ map greatest_time (take l.task-index l.tasks)
