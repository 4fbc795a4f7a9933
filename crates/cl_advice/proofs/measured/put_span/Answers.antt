use Rattle.std.proofs.Common.{List, ℕ, ◌++◌, ◌*◌, ◌-◌, ap, ◌∙◌}
use Rattle.std.specs.Prelude.{codes, decimal}
use Rattle.cl_model.specs.{declared.limits.TheConstants.MOST_DISTANCES, Timing.{least_distance, greatest_jitter}}
use Rattle.cl_advice.specs.Measured.{span_line}
use Rattle.cl_advice.proofs.Pieces.{lined_five}
use Rattle.cl_advice.proofs.measured.put_span.Goals as goal

pub returns : goal.returns
unfolding span_line
returns c =
    let most = c.saturating_sub-most.ensures
    ∙ ap (λ (n : ℕ). MOST_DISTANCES * n - c.greatest_jitter.result) c.least_distance.ensures
    ∙ ap (λ (n : ℕ). MOST_DISTANCES * least_distance c.args.kind - n) c.greatest_jitter.ensures in
    lined_five (codes "wanted at most ") (decimal (MOST_DISTANCES * least_distance c.args.kind - greatest_jitter c.args.kind))
    (codes ", 1000000 times the least distance of ") c.args.above.now.name (codes " less its jitter")
    c.args.text.now c.put.new.self c.put_number.new.self c.put-2.new.self c.put-3.new.self c.put-4.new.self c.put-5.new.self
    c.in_ok-put.ensures.ok (c.in_ok-put_number.ensures.ok ∙ ap (λ (n : ℕ). c.put.new.self ++ decimal n) most) c.in_ok-put-2.ensures.ok
    (c.in_ok-put-3.ensures.ok ∙ ap (λ (l : List ℕ). c.put-2.new.self ++ l) c.as_slice.ensures.bytes) c.in_ok-put-4.ensures.ok c.in_ok-put-5.ensures.ok
