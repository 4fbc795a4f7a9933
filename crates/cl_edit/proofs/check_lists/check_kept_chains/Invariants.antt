use Rattle.std.proofs.Common.{◌≡◌, drop}
use Rattle.cl_model.specs.{ByNumber.task_at, Refusals.{each, each_from}}
use Rattle.cl_edit.specs.FewListChecks.{kept_steps_check}
use Rattle.cl_edit.proofs.check_lists.check_kept_chains.Given as goal

-- what is refused in all is what is refused in the rest
abbrev pub invariant-loop-c : goal.invariant-loop-c
invariant-loop-c l = each (kept_steps_check (task_at l.model l.task)) l.chains ≡ each_from l.c (kept_steps_check (task_at l.model l.task)) (drop l.c l.chains)
