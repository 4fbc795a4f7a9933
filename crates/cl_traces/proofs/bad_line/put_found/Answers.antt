use Rattle.std.specs.Prelude.{codes}
use Rattle.cl_advice.specs.Shown.{quoted}
use Rattle.cl_advice.proofs.Pieces.{lined_two}
use Rattle.cl_traces.proofs.bad_line.put_found.Goals as goal

pub returns : goal.returns
returns c =
    lined_two (codes "found ") (quoted c.args.found.now) c.args.text.now c.put.new.self c.put_quoted.new.text c.put-2.new.self
    c.in_ok-put.ensures.ok c.in_ok-put_quoted.ensures c.in_ok-put-2.ensures.ok
