use Rattle.std.proofs.Common.{◌≡◌, take, map}
use Rattle.cl_tune.specs.Inner.Times.{scaled_times}
use Rattle.cl_tune.proofs.times.all_times.Given as goal

-- the times of the tasks so far
abbrev pub invariant-loop-task : goal.invariant-loop-task
invariant-loop-task l = l.times ≡ map (scaled_times l.percent) (take l.task-index l.tasks)
