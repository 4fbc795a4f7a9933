-- The bound on the reaction is the bound on the age: both take the distance of each group once.
use Rattle.std.proofs.Common.{◌≡◌, pos, List, [], ◌∷◌, refl, arith}
use Rattle.std.specs.Prelude.{◌+ℤ◌}
use Rattle.std.proofs.lemmas.Int.{ints}
use Rattle.cl_hop.specs.{declared.group_timing.GroupTiming.GroupTiming, Hops.{forward_hop, backward_hop, hops}, Bounds.{last_of, greatest_reaction, greatest_age}}
use Rattle.cl_hop.proofs.LagTable.{hop_shifts}

-- forward hops take the distances of all groups but the first, backward hops those of all but the last
distances_once : (first : GroupTiming) (groups : List GroupTiming)
    → pos first.distance +ℤ hops forward_hop first groups ≡ pos (last_of first groups).distance +ℤ hops backward_hop first groups
distances_once first [] = refl
distances_once first (next ∷ groups) = omega (arith, ints, hop_shifts next.distance first.distance first next, distances_once next groups)

pub reaction_is_age : (groups : List GroupTiming) → greatest_reaction groups ≡ greatest_age groups
reaction_is_age [] = refl
reaction_is_age (first ∷ groups) = omega (arith, ints, distances_once first groups)
