use Rattle.std.proofs.Common.{◌≡◌, drop}
use Rattle.cl_model.specs.Refusals.{each, each_from}
use Rattle.cl_valid.specs.Inner.ChainsByTable.{use_chain_check}
use Rattle.cl_valid.proofs.chains.check_all_chains.Given as goal

-- what is refused in all is what is refused in the rest
abbrev pub invariant-loop-i : goal.invariant-loop-i
invariant-loop-i l = each (use_chain_check l.runnables l.uses) l.chains ≡ each_from l.i (use_chain_check l.runnables l.uses) (drop l.i l.chains)
