use Rattle.cl_picture.proofs.axis.put_tick.Goals as goal

pub returns-clause-ok : goal.returns-clause-ok
returns-clause-ok c = rw (← c.x.ensures.x) c.put_line.ensures.ok

pub returns-clause-err : goal.returns-clause-err
returns-clause-err c = rw (← c.x.ensures.x) c.put_line.ensures.err
