use Rattle.std.proofs.Common.{◌≡◌, drop}
use Rattle.std.specs.Option.{option_copied}
use Rattle.cl_model.specs.Refusals.{each, each_from}
use Rattle.cl_valid.specs.Inner.ChainsByTable.{use_of_number, number_hop_check}
use Rattle.cl_valid.proofs.chains.check_hops.Given as goal

-- what is refused in all is what is refused in the rest, and the next writer is the step that was reached
abbrev pub invariant-loop-k : goal.invariant-loop-k
invariant-loop-k l =
    (each (number_hop_check l.uses l.numbers l.place) l.labels ≡ each_from l.k (number_hop_check l.uses l.numbers l.place) (drop l.k l.labels))
    × (option_copied l.writer ≡ use_of_number l.uses l.numbers l.k)
