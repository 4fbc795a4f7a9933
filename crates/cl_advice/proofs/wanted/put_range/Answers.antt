use Rattle.std.specs.Prelude.{codes, decimal}
use Rattle.cl_advice.specs.Wanted.{range_text}
use Rattle.cl_advice.proofs.Pieces.{four_pieces}
use Rattle.cl_advice.proofs.wanted.put_range.Goals as goal

pub returns : goal.returns
unfolding range_text
returns c =
    four_pieces (codes "a whole number from ") (decimal c.args.low) (codes " to ") (decimal c.args.high)
    c.args.text.now c.put.new.self c.put_number.new.self c.put-2.new.self c.put_number-2.new.self
    c.in_ok-put.ensures.ok c.in_ok-put_number.ensures.ok c.in_ok-put-2.ensures.ok c.in_ok-put_number-2.ensures.ok
