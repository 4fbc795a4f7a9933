use Rattle.cl_draw.proofs.chain_lines.put_group.Goals as goal

pub returns : goal.returns
returns c =
    rw (← c.as_slice.ensures.bytes) c.put_line.ensures.ok
