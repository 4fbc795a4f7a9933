use Rattle.std.proofs.Common.{◌≡◌, map, ◌++◌, take}
use Rattle.cl_model.specs.Named.{runnable_names}
use Rattle.cl_lists.specs.declared.unknown.RunnableName.{RunnableName}
use Rattle.cl_lists.proofs.unknown.push_names.Given as goal

abbrev pub invariant-loop-runnable : goal.invariant-loop-runnable
invariant-loop-runnable l =
    map (λ (it : RunnableName). it.name) l.names.items ≡ map (λ (it : RunnableName). it.name) l.initial.names.items ++ runnable_names (take l.runnable-index l.runnables)
