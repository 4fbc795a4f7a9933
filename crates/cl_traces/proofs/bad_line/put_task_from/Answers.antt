use Rattle.std.proofs.Common.{List, ℕ, ◌++◌, ap, ◌∙◌}
use Rattle.std.specs.Prelude.{codes}
use Rattle.cl_model.specs.ByNumber.{task_at}
use Rattle.cl_advice.proofs.Pieces.{three_pieces}
use Rattle.cl_traces.proofs.bad_line.put_task_from.Goals as goal

pub returns : goal.returns
returns c =
    three_pieces (codes "a task from ") (task_at c.args.model.now c.args.least).name (codes " on")
    c.args.text.now c.put.new.self c.put-2.new.self c.put-3.new.self c.in_ok-put.ensures.ok
    (c.in_ok-put-2.ensures.ok ∙ ap (λ (name : List ℕ). c.put.new.self ++ name) c.task_name.ensures) c.in_ok-put-3.ensures.ok
