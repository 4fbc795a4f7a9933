use Rattle.cl_draw.proofs.row_lines.put_last.Goals as goal

pub returns : goal.returns
returns c =
    rw (← c.as_slice.ensures.bytes) c.put_pieces.ensures.ok
