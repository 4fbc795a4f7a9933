use Rattle.std.proofs.Common.{All}
use Rattle.cl_tight.proofs.FoundNumbers.{NoneIsFound}
use Rattle.cl_tight.proofs.found.FoundNumbers.new.Given as goal

abbrev pub invariant-loop-task : goal.invariant-loop-task
invariant-loop-task l = All NoneIsFound l.by_task
