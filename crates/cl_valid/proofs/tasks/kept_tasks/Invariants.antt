use Rattle.std.proofs.Common.{◌≡◌, take, drop}
use Rattle.cl_model.specs.{Refusals.each_from, ValidTasks.{task_check, task_checks}}
use Rattle.cl_valid.specs.Inner.Tables.{kept_of}
use Rattle.cl_valid.proofs.tasks.kept_tasks.Given as goal

-- what is kept is that of the tasks so far, and what is refused of all is what is refused of the rest
abbrev pub invariant-loop-i : goal.invariant-loop-i
invariant-loop-i l = record {
  kept : l.kept ≡ kept_of l.model (take l.i l.model.tasks);
  rest : task_checks l.model ≡ each_from l.i (task_check l.model) (drop l.i l.model.tasks);
}
