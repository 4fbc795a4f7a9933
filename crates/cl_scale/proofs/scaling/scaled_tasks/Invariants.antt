use Rattle.std.proofs.Common.{◌≡◌, take, map}
use Rattle.cl_scale.specs.Scaled.{scaled_task}
use Rattle.cl_scale.proofs.scaling.scaled_tasks.Given as goal

-- the copies of the tasks so far
abbrev pub invariant-loop-task : goal.invariant-loop-task
invariant-loop-task l = l.copies ≡ map (scaled_task l.percent) (take l.task-index l.tasks)
