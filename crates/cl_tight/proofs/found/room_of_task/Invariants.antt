use Rattle.cl_tight.proofs.FoundNumbers.{NoneIsFound}
use Rattle.cl_tight.proofs.found.room_of_task.Given as goal

abbrev pub invariant-loop : goal.invariant-loop
invariant-loop l = NoneIsFound l.room
