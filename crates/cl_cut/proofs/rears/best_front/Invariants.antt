use Rattle.cl_cut.proofs.RearFacts.{IsFrontSoFar}
use Rattle.cl_cut.proofs.rears.best_front.Given as goal

abbrev pub invariant-loop-size : goal.invariant-loop-size
invariant-loop-size l = IsFrontSoFar l.rears l.values l.size l.best
