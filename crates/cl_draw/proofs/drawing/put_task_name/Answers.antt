use Rattle.cl_draw.proofs.drawing.put_task_name.Goals as goal

pub returns : goal.returns
returns c =
    rw (← c.row.ensures.row, ← c.task.ensures.task) c.put_name.ensures
