use Rattle.std.proofs.Common.{◌≡◌, ◌∷◌, take}
use Rattle.cl_cut.proofs.rears.joined.Given as goal

abbrev pub invariant-loop-other : goal.invariant-loop-other
invariant-loop-other l = l.list ≡ l.first ∷ take l.other-index l.others
