use Rattle.cl_draw.proofs.PlaceFacts.{AreRowsBelow}
use Rattle.cl_draw.proofs.places.row_tops.Given as goal

abbrev pub invariant-loop-task : goal.invariant-loop-task
invariant-loop-task l = AreRowsBelow l.model l.task l.next.items l.rows
