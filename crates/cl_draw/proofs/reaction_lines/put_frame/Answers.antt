use Rattle.cl_draw.proofs.reaction_lines.put_frame.Goals as goal

pub returns : goal.returns
returns c =
    rw (← c.x-left.ensures.x, ← c.x-right.ensures.x, ← c.middle_of-middle.ensures.middle, ← c.half_of-half.ensures, ← c.saturating_sub.ensures, ← c.saturating_sub-2.ensures, ← c.max.ensures) c.put_line.ensures.ok
