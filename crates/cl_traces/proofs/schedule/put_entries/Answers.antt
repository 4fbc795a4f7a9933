use Rattle.std.specs.Prelude.{codes}
use Rattle.cl_traces.specs.SaidOfRules.{entry_words}
use Rattle.cl_traces.proofs.MorePieces.{two_lines}
use Rattle.cl_traces.proofs.schedule.put_entries.Goals as goal

pub returns : goal.returns
returns c =
    two_lines (codes "found ") (entry_words c.args.model.now c.args.found) (codes "wanted ") (entry_words c.args.model.now c.args.wanted)
    c.args.text.now c.put.new.self c.put_entry.new.text c.put-2.new.self c.put_entry-2.new.text c.put-3.new.self
    c.in_ok-put.ensures.ok c.in_ok-put_entry.ensures c.in_ok-put-2.ensures.ok c.in_ok-put_entry-2.ensures c.in_ok-put-3.ensures.ok
