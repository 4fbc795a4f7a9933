use Rattle.std.proofs.Common.{arith}
use Rattle.cl_draw.proofs.DrawnFacts.{drawable_here}
use Rattle.cl_draw.proofs.drawing.put_task_row.Goals as goal

pub put_row-requires-clause-of : goal.put_row-requires-clause-of
put_row-requires-clause-of c = record { is_task = c.requires.known; valid = c.requires.drawing.valid; legal = c.requires.legal }

pub put_row-requires-clause-bands : goal.put_row-requires-clause-bands
put_row-requires-clause-bands c = (drawable_here c.args.model.now c.args.drawing.now.rows _ c.as_slice.ensures c.args.task
    (omega (arith, c.requires.known, c.requires.drawing.row_count)) c.index-as_slice-task.result _ c.index-as_slice-task.is
    (c.requires.drawing.drawable_rows c.args.task c.requires.known)).bands

pub put_row-requires-clause-parts : goal.put_row-requires-clause-parts
put_row-requires-clause-parts c = (drawable_here c.args.model.now c.args.drawing.now.rows _ c.as_slice.ensures c.args.task
    (omega (arith, c.requires.known, c.requires.drawing.row_count)) c.index-as_slice-task.result _ c.index-as_slice-task.is
    (c.requires.drawing.drawable_rows c.args.task c.requires.known)).parts
