use Rattle.cl_edit.proofs.FoundPriorities.{AreFoundSoFar}
use Rattle.cl_edit.proofs.resolve.priorities.Given as goal

abbrev pub invariant-loop-one : goal.invariant-loop-one
invariant-loop-one l = AreFoundSoFar l.model l.all l.one-index l.priorities
