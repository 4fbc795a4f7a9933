use Rattle.std.proofs.Common.{refl, arith, ap}
use Rattle.std.proofs.lemmas.Int.{ints}
use Rattle.cl_hop.specs.declared.sums.Sums.{Sums}
use Rattle.cl_hop.proofs.LoopSums.{same_sums, nearer}
use Rattle.cl_hop.proofs.sums.Sums.with.Goals as goal

pub returns-clause-sums : goal.returns-clause-sums
returns-clause-sums c = same_sums c.args.next c.args.next _ _ _ _ refl
    (omega (arith, ints, c.requires.forward.0, c.requires.forward.1, c.forward_hop.ensures.hop, c.forward_hop.ensures.near.0, c.forward_hop.ensures.near.1))
    (omega (arith, ints, c.requires.backward.0, c.requires.backward.1, c.backward_hop.ensures.hop, c.backward_hop.ensures.near.0, c.backward_hop.ensures.near.1))

pub returns-clause-forward_near : goal.returns-clause-forward_near
returns-clause-forward_near c hops near =
    rw (ap (λ (sums : Sums). sums.forward) (returns-clause-sums c)) (nearer hops c.args.self.forward _ near (rw c.forward_hop.ensures.hop at c.forward_hop.ensures.near))

pub returns-clause-backward_near : goal.returns-clause-backward_near
returns-clause-backward_near c hops near =
    rw (ap (λ (sums : Sums). sums.backward) (returns-clause-sums c)) (nearer hops c.args.self.backward _ near (rw c.backward_hop.ensures.hop at c.backward_hop.ensures.near))
