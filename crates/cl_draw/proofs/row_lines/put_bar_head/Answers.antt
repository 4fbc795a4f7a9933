use Rattle.cl_draw.proofs.row_lines.put_bar_head.Goals as goal

pub returns : goal.returns
returns c =
    rw (← c.from.ensures, ← c.saturating_sub.ensures, ← c.as_slice.ensures.bytes) c.put_pieces.ensures.ok
