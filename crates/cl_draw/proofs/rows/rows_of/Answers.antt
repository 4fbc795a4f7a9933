use Rattle.cl_draw.specs.Rows.{IsRowOf, no_row}
use Rattle.cl_draw.proofs.FirstItems.{one_more_first}
use Rattle.cl_draw.proofs.rows.rows_of.Goals as goal

pub loop-task-preserved : goal.loop-task-preserved
loop-task-preserved c = one_more_first (IsRowOf c.args.model.now c.args.run.now c.args.window) no_row c.loop-task.task c.loop-task.rows _ _ c.loop-task.invariant
    c.in_ok-row_of.ensures c.in_ok-push.ensures.ok
