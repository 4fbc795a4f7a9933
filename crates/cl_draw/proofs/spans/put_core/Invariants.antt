use Rattle.cl_draw.proofs.SpanFacts.{IsPutBelow}
use Rattle.cl_draw.proofs.spans.put_core.Given as goal

abbrev pub invariant-loop-stretch : goal.invariant-loop-stretch
invariant-loop-stretch l = IsPutBelow l.stretches l.stretch-index l.from l.initial.spans.items l.spans.items
