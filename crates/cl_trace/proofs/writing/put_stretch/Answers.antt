use Rattle.std.proofs.lemmas.List.{append-nil}
use Rattle.cl_trace.specs.Trace.{item_text}
use Rattle.cl_trace.proofs.writing.put_stretch.Goals as goal

pub returns-in-Some : goal.returns-in-Some
unfolding item_text
returns-in-Some c = rw (c.in-Some.is, append-nil) (rw c.name_of.ensures.name at c.put_run.ensures)
