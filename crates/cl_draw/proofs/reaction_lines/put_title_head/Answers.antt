use Rattle.cl_draw.proofs.reaction_lines.put_title_head.Goals as goal

pub returns : goal.returns
returns c =
    rw (← c.as_slice.ensures.bytes, ← c.saturating_sub.ensures) c.put_pieces.ensures.ok
