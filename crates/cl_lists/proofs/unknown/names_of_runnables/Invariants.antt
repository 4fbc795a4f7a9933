use Rattle.std.proofs.Common.{◌≡◌, map, take}
use Rattle.cl_model.specs.Named.{runnable_names, all_runnables}
use Rattle.cl_lists.specs.declared.unknown.RunnableName.{RunnableName}
use Rattle.cl_lists.proofs.unknown.names_of_runnables.Given as goal

abbrev pub invariant-loop-task : goal.invariant-loop-task
invariant-loop-task l = map (λ (it : RunnableName). it.name) l.names.items ≡ runnable_names (all_runnables (take l.task-index l.task-items))
