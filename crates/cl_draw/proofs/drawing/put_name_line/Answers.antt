use Rattle.cl_draw.proofs.drawing.put_name_line.Goals as goal

pub returns : goal.returns
returns c =
    rw (← c.as_slice.ensures.bytes) c.put_line.ensures.ok
