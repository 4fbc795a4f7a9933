use Rattle.std.proofs.Common.{length, arith, ap, ◌∙◌, List, ℕ, ◌++◌}
use Rattle.cl_draw.specs.Picture.{by_core, task_name}
use Rattle.std.specs.List.{flat_map}
use Rattle.cl_picture.specs.Pieces.{print}
use Rattle.cl_picture.proofs.Printing.{no_elements, numbered_elements, all_numbered}
use Rattle.cl_draw.proofs.drawing.put_task_names.Goals as goal

pub loop-core-init : goal.loop-core-init
loop-core-init c = no_elements _

pub loop-core-preserved : goal.loop-core-preserved
loop-core-preserved c = numbered_elements (by_core c.args.model.now (task_name c.args.model.now)) _ _ _ c.loop-core.core c.loop-core.invariant
    (c.in_ok-put_core_names.ensures ∙ ap (λ (ts : List ℕ). c.loop-core.text ++ print (flat_map (task_name c.args.model.now) ts)) c.tasks_of_core.ensures.tasks)

pub returns : goal.returns
returns c = all_numbered (by_core c.args.model.now (task_name c.args.model.now)) _ _ c.loop-core.core (length c.args.model.now.cores) (omega (arith, c.loop-core-test.false, c.loop-core.auto.core-end, c.cores-core-end.ensures.count)) c.loop-core.invariant
