use Rattle.std.specs.Prelude.{codes, decimal}
use Rattle.cl_advice.specs.Advice.{at_line}
use Rattle.cl_advice.proofs.Pieces.{lined_four}
use Rattle.cl_advice.proofs.position.put_at.Goals as goal

pub returns : goal.returns
unfolding at_line
returns c =
    lined_four (codes "at ") (decimal c.args.row) (codes " ") (decimal c.args.column)
    c.args.text.now c.put.new.self c.put_number.new.self c.put-2.new.self c.put_number-2.new.self c.put-3.new.self
    c.in_ok-put.ensures.ok c.in_ok-put_number.ensures.ok c.in_ok-put-2.ensures.ok c.in_ok-put_number-2.ensures.ok c.in_ok-put-3.ensures.ok
