use Rattle.std.proofs.Common.{List, ℕ, ◌++◌, ap, ◌∙◌}
use Rattle.std.specs.Prelude.{codes}
use Rattle.cl_advice.proofs.Pieces.{two_pieces}
use Rattle.cl_traces.proofs.schedule.put_task.Goals as goal

pub returns : goal.returns
returns c =
    two_pieces (codes "task ") c.args.task.now.name c.args.text.now c.put.new.self c.put-2.new.self c.in_ok-put.ensures.ok
    (c.in_ok-put-2.ensures.ok ∙ ap (λ (name : List ℕ). c.put.new.self ++ name) c.as_slice.ensures.bytes)
