use Rattle.std.proofs.Common.{ℕ, ◌++◌, ap, ◌∙◌}
use Rattle.std.specs.Prelude.{codes, decimal}
use Rattle.cl_model.specs.Timing.{greatest_jitter}
use Rattle.cl_advice.specs.Measured.{found_jitter_line}
use Rattle.cl_advice.proofs.Pieces.{lined_two}
use Rattle.cl_advice.proofs.measured.put_found_jitter.Goals as goal

pub returns : goal.returns
unfolding found_jitter_line
returns c =
    lined_two (codes "found ") (decimal (greatest_jitter c.args.kind))
    c.args.text.now c.put.new.self c.put_number.new.self c.put-2.new.self
    c.in_ok-put.ensures.ok (c.in_ok-put_number.ensures.ok ∙ ap (λ (n : ℕ). c.put.new.self ++ decimal n) c.greatest_jitter.ensures) c.in_ok-put-2.ensures.ok
