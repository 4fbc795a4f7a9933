use Rattle.std.proofs.Common.{◌≡◌, drop}
use Rattle.cl_model.specs.{Refusals.{each, each_from}, Validity.hop_check}
use Rattle.cl_edit.proofs.check_lists.check_hops.Given as goal

-- what is refused in all is what is refused in the rest
abbrev pub invariant-loop-k : goal.invariant-loop-k
invariant-loop-k l = each (hop_check l.model l.chain l.place) l.chain.labels ≡ each_from l.k (hop_check l.model l.chain l.place) (drop l.k l.labels)
