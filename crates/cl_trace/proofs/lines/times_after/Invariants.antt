use Rattle.cl_trace.specs.Inner.Pieces.{AreTimes}
use Rattle.cl_trace.proofs.LineFacts.{Fits}
use Rattle.cl_trace.proofs.lines.times_after.Given as goal

abbrev pub invariant-loop : goal.invariant-loop
invariant-loop l = AreTimes l.counter l.text l.times l.left × Fits l.count l.text l.times l.left
