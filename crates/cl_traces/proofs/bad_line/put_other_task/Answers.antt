use Rattle.std.proofs.Common.{List, ℕ, ◌++◌, ap, ◌∙◌}
use Rattle.std.specs.Prelude.{codes, decimal}
use Rattle.cl_advice.proofs.Pieces.{four_pieces}
use Rattle.cl_traces.proofs.bad_line.put_other_task.Goals as goal

pub returns : goal.returns
returns c =
    four_pieces (codes "another task than ") c.args.task.now.name (codes " at ") (decimal c.args.end)
    c.args.text.now c.put.new.self c.put-2.new.self c.put-3.new.self c.put_number.new.self c.in_ok-put.ensures.ok
    (c.in_ok-put-2.ensures.ok ∙ ap (λ (name : List ℕ). c.put.new.self ++ name) c.as_slice.ensures.bytes) c.in_ok-put-3.ensures.ok
    c.in_ok-put_number.ensures.ok
