use Rattle.std.proofs.Common.{ℕ, ◌++◌, length, ap, ◌∙◌}
use Rattle.std.specs.Prelude.{codes, decimal}
use Rattle.cl_advice.proofs.Pieces.{lined_five}
use Rattle.cl_advice.proofs.measured.put_lengths.Goals as goal

pub returns : goal.returns
returns c =
    lined_five (codes "wanted one label fewer than runnables: ") (decimal (length c.args.chain.now.runnables)) (codes " runnables, ")
    (decimal (length c.args.chain.now.labels)) (codes " labels")
    c.args.text.now c.put.new.self c.put_number.new.self c.put-2.new.self c.put_number-2.new.self c.put-3.new.self c.put-4.new.self
    c.in_ok-put.ensures.ok (c.in_ok-put_number.ensures.ok ∙ ap (λ (n : ℕ). c.put.new.self ++ decimal n) c.len.ensures) c.in_ok-put-2.ensures.ok
    (c.in_ok-put_number-2.ensures.ok ∙ ap (λ (n : ℕ). c.put-2.new.self ++ decimal n) c.len-2.ensures) c.in_ok-put-3.ensures.ok c.in_ok-put-4.ensures.ok
