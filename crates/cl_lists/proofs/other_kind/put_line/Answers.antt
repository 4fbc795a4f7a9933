use Rattle.cl_advice.proofs.Pieces.{lined_two}
use Rattle.cl_lists.proofs.other_kind.put_line.Goals as goal

pub returns : goal.returns
returns c =
    lined_two c.args.word.now c.args.other.now c.args.text.now c.put.new.self c.put-2.new.self c.put-3.new.self
    c.in_ok-put.ensures.ok c.in_ok-put-2.ensures.ok c.in_ok-put-3.ensures.ok
