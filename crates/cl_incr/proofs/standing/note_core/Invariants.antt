use Rattle.cl_incr.specs.Inner.Standing.{AreStanding}
use Rattle.cl_incr.proofs.standing.note_core.Given as goal

abbrev pub invariant-loop-place : goal.invariant-loop-place
invariant-loop-place l = AreStanding l.old l.new l.standing.items
