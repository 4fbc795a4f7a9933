use Rattle.std.proofs.lemmas.Nat.Gcd.{dvd_antisymm}
use Rattle.cl_time.proofs.laws.one_lcm.Goals as goal

pub returns : goal.returns
returns c a b m n p q = dvd_antisymm (p.least n q.first q.second) (q.least m p.first p.second)
