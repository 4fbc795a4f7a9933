use Rattle.cl_cut.proofs.OneCutAnswer.{AreFirstAnswers}
use Rattle.cl_cut.proofs.cutting.best_cuts.Given as goal

abbrev pub invariant-loop-chain : goal.invariant-loop-chain
invariant-loop-chain g l = AreFirstAnswers l.model l.chain l.answers
