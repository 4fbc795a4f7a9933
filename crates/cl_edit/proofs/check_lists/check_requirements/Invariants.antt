use Rattle.std.proofs.Common.{◌≡◌, drop}
use Rattle.cl_model.specs.Refusals.{each, each_from}
use Rattle.cl_edit.specs.FewListChecks.{kept_chain_check}
use Rattle.cl_edit.proofs.check_lists.check_requirements.Given as goal

-- what is refused in all is what is refused in the rest
abbrev pub invariant-loop-i : goal.invariant-loop-i
invariant-loop-i l = each (kept_chain_check l.chain) l.requirements ≡ each_from l.i (kept_chain_check l.chain) (drop l.i l.requirements)
