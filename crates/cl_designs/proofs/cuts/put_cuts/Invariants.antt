use Rattle.std.proofs.Common.{◌≡◌, ◌++◌}
use Rattle.std.specs.List.{flat_map, range_with_len}
use Rattle.cl_designs.specs.Cuts.{cut_line}
use Rattle.cl_designs.proofs.cuts.put_cuts.Given as goal

abbrev pub invariant-loop-chain : goal.invariant-loop-chain
invariant-loop-chain l = l.text ≡ l.initial.text ++ flat_map (cut_line l.model l.answers) (range_with_len 0 l.chain)
