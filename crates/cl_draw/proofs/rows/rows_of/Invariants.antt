use Rattle.cl_draw.specs.Rows.{IsRowOf, no_row}
use Rattle.cl_draw.proofs.FirstItems.{AreFirst}
use Rattle.cl_draw.proofs.rows.rows_of.Given as goal

abbrev pub invariant-loop-task : goal.invariant-loop-task
invariant-loop-task l = AreFirst (IsRowOf l.model l.run l.window) no_row l.task l.rows
