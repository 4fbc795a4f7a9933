use Rattle.std.proofs.lemmas.Nat.Gcd.{same_from_IsGcd}
use Rattle.cl_time.proofs.laws.one_gcd.Goals as goal

pub returns : goal.returns
returns c = same_from_IsGcd
