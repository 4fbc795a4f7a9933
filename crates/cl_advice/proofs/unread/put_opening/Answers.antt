use Rattle.std.specs.Prelude.{codes}
use Rattle.cl_advice.proofs.Pieces.{lined_five}
use Rattle.cl_advice.proofs.unread.put_opening.Goals as goal

pub returns : goal.returns
returns c =
    let word = c.args.section.now in
    lined_five (codes "mend each ") word (codes " begins with [[") word (codes "]]")
    c.args.text.now c.put.new.self c.put-2.new.self c.put-3.new.self c.put-4.new.self c.put-5.new.self c.put-6.new.self
    c.in_ok-put.ensures.ok c.in_ok-put-2.ensures.ok c.in_ok-put-3.ensures.ok c.in_ok-put-4.ensures.ok c.in_ok-put-5.ensures.ok c.in_ok-put-6.ensures.ok
