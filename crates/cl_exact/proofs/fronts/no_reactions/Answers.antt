use Rattle.std.proofs.Common.{◌≡◌, ℕ, zero, suc, Option, None, replicate, get_or, refl}
use Rattle.cl_exact.proofs.fronts.no_reactions.Goals as goal

none_everywhere : (n place : ℕ) → get_or (replicate {A = Option ℕ} n None) place None ≡ None
none_everywhere zero place = refl
none_everywhere (suc n) zero = refl
none_everywhere (suc n) (suc place) = none_everywhere n place

pub returns-clause-none : goal.returns-clause-none
returns-clause-none c = λ place. none_everywhere 64 place
