use Rattle.std.proofs.Common.{List, ℕ, ◌+◌, ◌++◌, ap, ◌∙◌}
use Rattle.std.specs.Prelude.{codes, decimal}
use Rattle.cl_advice.proofs.Pieces.{lined_four}
use Rattle.cl_advice.proofs.of_edits.put_named.Goals as goal

pub returns : goal.returns
returns c =
    lined_four (codes " ") c.args.name.now (codes " ") (decimal (c.args.number + 1))
    c.args.text.now c.put.new.self c.put-2.new.self c.put-3.new.self c.put_number.new.self c.put-4.new.self
    c.in_ok-put.ensures.ok (c.in_ok-put-2.ensures.ok ∙ ap (λ (name : List ℕ). c.put.new.self ++ name) c.as_slice.ensures.bytes)
    c.in_ok-put-3.ensures.ok (c.in_ok-put_number.ensures.ok ∙ ap (λ (n : ℕ). c.put-3.new.self ++ decimal (n + 1)) c.from.ensures) c.in_ok-put-4.ensures.ok
