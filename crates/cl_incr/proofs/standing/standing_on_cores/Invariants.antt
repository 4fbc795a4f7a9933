use Rattle.cl_incr.specs.Inner.Standing.{AreStanding}
use Rattle.cl_incr.proofs.standing.standing_on_cores.Given as goal

abbrev pub invariant-loop-core : goal.invariant-loop-core
invariant-loop-core l = AreStanding l.old l.new l.standing.items
