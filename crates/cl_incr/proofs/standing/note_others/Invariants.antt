use Rattle.cl_incr.specs.Inner.Standing.{AreStanding}
use Rattle.cl_incr.proofs.standing.note_others.Given as goal

abbrev pub invariant-loop-task : goal.invariant-loop-task
invariant-loop-task l = AreStanding l.old l.new l.standing.items
