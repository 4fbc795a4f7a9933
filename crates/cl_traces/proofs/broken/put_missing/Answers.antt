use Rattle.std.proofs.Common.{List, ℕ, ◌++◌, ap, ◌∙◌}
use Rattle.std.specs.Prelude.{codes, decimal}
use Rattle.cl_model.specs.{declared.task.TaskDef.TaskDef, ByNumber.task_at}
use Rattle.cl_advice.proofs.Pieces.{lined_four}
use Rattle.cl_traces.proofs.broken.put_missing.Goals as goal

pub returns : goal.returns
returns c =
    lined_four (codes "wanted a job of ") (task_at c.args.model.now c.args.task).name (codes " at ") (decimal c.args.tick)
    c.args.text.now c.put.new.self c.put-2.new.self c.put-3.new.self c.put_number.new.self c.put-4.new.self c.in_ok-put.ensures.ok
    (c.in_ok-put-2.ensures.ok
    ∙ ap (λ (name : List ℕ). c.put.new.self ++ name) (c.as_slice.ensures.bytes ∙ ap (λ (task : TaskDef). task.name) c.task.ensures.task))
    c.in_ok-put-3.ensures.ok c.in_ok-put_number.ensures.ok c.in_ok-put-4.ensures.ok
