use Rattle.std.proofs.Common.{List, ℕ, ◌++◌, ap, ◌∙◌}
use Rattle.std.specs.Prelude.{codes}
use Rattle.cl_advice.proofs.Pieces.{three_pieces}
use Rattle.cl_traces.proofs.bad_line.put_core_from.Goals as goal

pub returns : goal.returns
returns c =
    three_pieces (codes "a core from ") c.args.core.now.name (codes " on")
    c.args.text.now c.put.new.self c.put-2.new.self c.put-3.new.self c.in_ok-put.ensures.ok
    (c.in_ok-put-2.ensures.ok ∙ ap (λ (name : List ℕ). c.put.new.self ++ name) c.as_slice.ensures.bytes) c.in_ok-put-3.ensures.ok
