use Rattle.std.proofs.Common.{arith, refl}
use Rattle.std.proofs.lemmas.Nat.{le-div}
use Rattle.std.proofs.Math.Nat.{le-div_iff_mul-le}
use Rattle.cl_time.proofs.Multiples.{IsGcd-pos, IsLcm-from_gcd, IsLcm-pos}
use Rattle.cl_time.proofs.divisors.lcm_upto.Goals as goal

pub nonzero_div-cofactor : goal.nonzero_div-cofactor
nonzero_div-cofactor c = IsGcd-pos _ _ _ c.requires.a_positive c.gcd.ensures

pub returns-then-cofactor-limit-clause-least : goal.returns-then-cofactor-limit-clause-least
returns-then-cofactor-limit-clause-least c = (
  _,
  IsLcm-from_gcd _ _ _ c.requires.a_positive c.gcd.ensures,
  ((le-div_iff_mul-le c.requires.b_positive).0 (omega arith), refl),
)

pub returns-then-cofactor-limit-clause-positive : goal.returns-then-cofactor-limit-clause-positive
returns-then-cofactor-limit-clause-positive c =
    IsLcm-pos _ _ _ c.requires.a_positive c.requires.b_positive
    (IsLcm-from_gcd _ _ _ c.requires.a_positive c.gcd.ensures)

pub returns-else-cofactor-limit-clause-least : goal.returns-else-cofactor-limit-clause-least
returns-else-cofactor-limit-clause-least c = (
  _,
  IsLcm-from_gcd _ _ _ c.requires.a_positive c.gcd.ensures,
  λ within. omega (arith, le-div _ _ _ c.requires.b_positive within),
)
