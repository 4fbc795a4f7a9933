use Rattle.std.proofs.Common.{◌≡◌, take}
use Rattle.cl_model.specs.Named.{runnable_names, all_runnables}
use Rattle.cl_model.proofs.groups.names_of_runnables.Given as goal

-- the runnables of the tasks so far are numbered
abbrev pub invariant-loop-task : goal.invariant-loop-task
invariant-loop-task l = l.names ≡ runnable_names (all_runnables (take l.task-index l.tasks))
