use Rattle.cl_draw.proofs.SpansOfRun.{AreSpansUpTo}
use Rattle.cl_draw.proofs.spans.spans_of.Given as goal

abbrev pub invariant-loop-core : goal.invariant-loop-core
invariant-loop-core l = AreSpansUpTo l.model l.run l.core l.spans.items
