use Rattle.std.proofs.Common.{◌≡◌, drop}
use Rattle.cl_model.specs.Refusals.{each, each_from}
use Rattle.cl_edit.specs.FewListChecks.{kept_step_check}
use Rattle.cl_edit.proofs.check_lists.check_kept_steps.Given as goal

-- what is refused in all is what is refused in the rest
abbrev pub invariant-loop-k : goal.invariant-loop-k
invariant-loop-k l = each (kept_step_check l.task l.place) l.steps ≡ each_from l.k (kept_step_check l.task l.place) (drop l.k l.steps)
