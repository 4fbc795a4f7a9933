use Rattle.std.proofs.Common.{◌≡◌, map, take, drop}
use Rattle.toml.specs.View.{view}
use Rattle.cl_model.specs.Refusals.{each_from}
use Rattle.cl_read.proofs.arrays.members.Given as goal

-- what is refused in all members is what is refused in those that are left, and the members so far are read
abbrev pub invariant-loop-i : goal.invariant-loop-i
invariant-loop-i g l =
    (each_from 0 (λ n. g.T.Member.checks l.version (g.T.Member.place_in n l.place)) (map view l.values)
    ≡ each_from l.i (λ n. g.T.Member.checks l.version (g.T.Member.place_in n l.place)) (map view (drop l.i l.values)))
    × (l.members ≡ map (g.T.Member.meaning l.version) (map view (take l.i l.values)))
