use Rattle.std.specs.Prelude.{codes, decimal}
use Rattle.cl_traces.specs.SaidOfRules.{arrivals_words}
use Rattle.cl_traces.proofs.MorePieces.{two_lines}
use Rattle.cl_traces.proofs.arrivals.put_untimely.Goals as goal

pub returns : goal.returns
returns c =
    two_lines (codes "found arrival ") (decimal c.args.job.now.arrival) (codes "wanted ")
    (arrivals_words c.args.name.now c.args.ticks c.args.due.low c.args.due.high)
    c.args.text.now c.put.new.self c.put_number.new.self c.put-2.new.self c.put_arrivals.new.text c.put-3.new.self
    c.in_ok-put.ensures.ok c.in_ok-put_number.ensures.ok c.in_ok-put-2.ensures.ok c.in_ok-put_arrivals.ensures c.in_ok-put-3.ensures.ok
