use Rattle.cl_draw.proofs.mark_lines.put_label.Goals as goal

pub returns : goal.returns
returns c = rw (← c.x.ensures.x) c.put_line.ensures.ok
