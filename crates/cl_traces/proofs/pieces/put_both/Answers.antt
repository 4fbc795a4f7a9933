use Rattle.std.specs.Prelude.{codes, decimal}
use Rattle.cl_advice.proofs.Pieces.{three_pieces}
use Rattle.cl_traces.proofs.pieces.put_both.Goals as goal

pub returns : goal.returns
returns c =
    three_pieces (decimal c.args.low) (codes " to ") (decimal c.args.high) c.args.text.now c.put_wide.new.text c.put.new.self c.put_wide-2.new.text
    c.in_ok-put_wide.ensures c.in_ok-put.ensures.ok c.in_ok-put_wide-2.ensures
