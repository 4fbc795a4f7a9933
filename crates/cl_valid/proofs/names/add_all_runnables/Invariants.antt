use Rattle.std.proofs.Common.{◌≡◌, take, drop}
use Rattle.cl_model.specs.{Named.{runnable_names, all_runnables}, Refusals.{each, each_from}, ValidNames.runnable_repeats}
use Rattle.cl_valid.proofs.names.add_all_runnables.Given as goal

-- the runnables of the tasks so far are numbered, and what is refused of all is what is refused of the rest
abbrev pub invariant-loop-i : goal.invariant-loop-i
invariant-loop-i l = record {
  names : l.names ≡ runnable_names (all_runnables (take l.i l.tasks));
  rest : each (runnable_repeats l.tasks) l.tasks ≡ each_from l.i (runnable_repeats l.tasks) (drop l.i l.tasks);
}
