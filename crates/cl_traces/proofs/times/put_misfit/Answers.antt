use Rattle.std.proofs.Common.{List, ℕ, ◌++◌, ap, ◌∙◌}
use Rattle.std.specs.Prelude.{codes, decimal}
use Rattle.cl_traces.proofs.MorePieces.{line_and_six}
use Rattle.cl_traces.proofs.times.put_misfit.Goals as goal

pub returns : goal.returns
returns c =
    let runnable = c.args.runnable.now in
    line_and_six (codes "found time ") (decimal c.args.time) (codes "wanted time ") (decimal runnable.least) (codes " to ")
    (decimal runnable.greatest) (codes " of ") runnable.name
    c.args.text.now c.put.new.self c.put_number.new.self c.put-2.new.self c.put_number-2.new.self c.put-3.new.self c.put_number-3.new.self
    c.put-4.new.self c.put-5.new.self c.put-6.new.self
    c.in_ok-put.ensures.ok c.in_ok-put_number.ensures.ok c.in_ok-put-2.ensures.ok c.in_ok-put_number-2.ensures.ok c.in_ok-put-3.ensures.ok
    c.in_ok-put_number-3.ensures.ok c.in_ok-put-4.ensures.ok
    (c.in_ok-put-5.ensures.ok ∙ ap (λ (name : List ℕ). c.put-4.new.self ++ name) c.as_slice.ensures.bytes) c.in_ok-put-6.ensures.ok
