use Rattle.cl_draw.proofs.reaction_lines.put_length.Goals as goal

pub returns : goal.returns
returns c =
    rw (← c.x.ensures.x, ← c.x-2.ensures.x) c.put_line.ensures.ok
