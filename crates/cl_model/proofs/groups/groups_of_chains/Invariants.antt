use Rattle.std.proofs.Common.{◌≡◌, map, take}
use Rattle.cl_model.specs.Groups.{groups_of}
use Rattle.cl_model.proofs.groups.groups_of_chains.Given as goal

-- the groups of the chains so far
abbrev pub invariant-loop-chain : goal.invariant-loop-chain
invariant-loop-chain l = l.all.items ≡ map (groups_of l.model) (take l.chain-index l.chain-items)
