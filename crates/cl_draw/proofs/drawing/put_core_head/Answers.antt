use Rattle.cl_draw.proofs.drawing.put_core_head.Goals as goal

pub returns : goal.returns
returns c =
    rw (← c.head.ensures.head, ← c.core.ensures.core, ← c.as_slice.ensures.bytes) c.put_line.ensures.ok
