use Rattle.std.proofs.Common.{List, ℕ, ◌++◌, ap, ◌∙◌}
use Rattle.std.specs.Prelude.{decimal}
use Rattle.cl_advice.proofs.Pieces.{lined_four}
use Rattle.cl_advice.proofs.sentence.put_named.Goals as goal

pub returns : goal.returns
returns c =
    lined_four c.args.before.now (decimal c.args.number) c.args.middle.now c.args.name.now
    c.args.text.now c.put.new.self c.put_number.new.self c.put-2.new.self c.put-3.new.self c.put-4.new.self
    c.in_ok-put.ensures.ok c.in_ok-put_number.ensures.ok c.in_ok-put-2.ensures.ok
    (c.in_ok-put-3.ensures.ok ∙ ap (λ (l : List ℕ). c.put-2.new.self ++ l) c.as_slice.ensures.bytes) c.in_ok-put-4.ensures.ok
