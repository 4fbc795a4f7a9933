use Rattle.std.proofs.Common.{◌≡◌, drop}
use Rattle.cl_model.specs.Refusals.{each, each_from}
use Rattle.cl_edit.specs.FewListChecks.{below_new_check}
use Rattle.cl_edit.proofs.new_deadlines.check_all_below.Given as goal

-- what is refused in all is what is refused in the rest
abbrev pub invariant-loop-i : goal.invariant-loop-i
invariant-loop-i l = each (below_new_check l.model l.new) l.tasks ≡ each_from l.i (below_new_check l.model l.new) (drop l.i l.tasks)
