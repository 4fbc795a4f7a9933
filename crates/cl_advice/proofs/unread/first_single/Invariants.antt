use Rattle.std.proofs.Common.{◌≡◌, ℕ, List, map}
use denote.Bor.{Bor}
use Rattle.cl_advice.specs.Unread.{first_single}
use Rattle.cl_advice.proofs.unread.first_single.Given as goal

-- the first section so far
abbrev pub invariant-loop-word : goal.invariant-loop-word
invariant-loop-word l = l.found ≡ first_single (map (λ (w : Bor (List ℕ)). w.now) l.yielded)
