use Rattle.cl_draw.proofs.chain_lines.put_outside.Goals as goal

pub returns : goal.returns
returns c =
    rw (← c.saturating_sub.ensures) c.put_line.ensures.ok
