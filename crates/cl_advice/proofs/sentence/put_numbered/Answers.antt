use Rattle.std.specs.Prelude.{decimal}
use Rattle.cl_advice.proofs.Pieces.{lined_three}
use Rattle.cl_advice.proofs.sentence.put_numbered.Goals as goal

pub returns : goal.returns
returns c =
    lined_three c.args.before.now (decimal c.args.number) c.args.behind.now
    c.args.text.now c.put.new.self c.put_number.new.self c.put-2.new.self c.put-3.new.self
    c.in_ok-put.ensures.ok c.in_ok-put_number.ensures.ok c.in_ok-put-2.ensures.ok c.in_ok-put-3.ensures.ok
