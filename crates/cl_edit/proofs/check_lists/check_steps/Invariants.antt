use Rattle.std.proofs.Common.{◌≡◌, drop}
use Rattle.cl_model.specs.{Refusals.{each, each_from}, Validity.step_check}
use Rattle.cl_edit.proofs.check_lists.check_steps.Given as goal

-- what is refused in all is what is refused in the rest
abbrev pub invariant-loop-k : goal.invariant-loop-k
invariant-loop-k l = each (step_check l.model l.place) l.steps ≡ each_from l.k (step_check l.model l.place) (drop l.k l.steps)
