use Rattle.std.proofs.Common.{◌≡◌, drop}
use Rattle.cl_model.specs.Refusals.{each, each_from}
use Rattle.cl_valid.specs.Inner.ChainsByTable.{known_chain_check}
use Rattle.cl_valid.proofs.chains.check_all_requirements.Given as goal

-- what is refused in all is what is refused in the rest
abbrev pub invariant-loop-i : goal.invariant-loop-i
invariant-loop-i l = each (known_chain_check l.chains) l.requirements ≡ each_from l.i (known_chain_check l.chains) (drop l.i l.requirements)
