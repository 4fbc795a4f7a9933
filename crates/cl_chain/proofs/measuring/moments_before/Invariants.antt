use Rattle.std.proofs.Common.{◌≡◌, ◌∷◌, None, take}
use Rattle.cl_chain.proofs.measuring.moments_before.Given as goal

abbrev pub invariant-loop-moment : goal.invariant-loop-moment
invariant-loop-moment l = l.before ≡ None ∷ take l.moment-index l.moments
