use Rattle.std.proofs.Common.{◌≡◌, drop}
use Rattle.cl_model.specs.{Refusals.{each, each_from}, ValidTasks.deadline_check}
use Rattle.cl_valid.proofs.deadlines.check_deadlines.Given as goal

-- what is refused in all is what is refused in the rest
abbrev pub invariant-loop-i : goal.invariant-loop-i
invariant-loop-i l = each (deadline_check l.model) l.model.tasks ≡ each_from l.i (deadline_check l.model) (drop l.i l.tasks)
