use Rattle.cl_draw.proofs.drawing.put_chain_name.Goals as goal

pub returns : goal.returns
returns c =
    rw (← c.chain_row.ensures.row, ← c.chain.ensures.chain) c.put_name.ensures
