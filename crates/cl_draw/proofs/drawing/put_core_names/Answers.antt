use Rattle.std.proofs.Common.{refl, arith}
use Rattle.cl_draw.specs.Picture.{task_name}
use Rattle.cl_picture.proofs.Printing.{no_elements, listed_elements, all_elements}
use Rattle.cl_draw.proofs.drawing.put_core_names.Goals as goal

pub loop-task-init : goal.loop-task-init
loop-task-init c = no_elements _

pub loop-task-preserved : goal.loop-task-preserved
loop-task-preserved c = listed_elements (task_name c.args.model.now) c.args.tasks.now _ _ _ _ _ c.loop-task.task-index (omega arith) refl c.loop-task.invariant c.in_ok-put_task_name.ensures

pub returns : goal.returns
returns c = all_elements (task_name c.args.model.now) c.args.tasks.now _ _ c.loop-task.task-index (omega arith) c.loop-task.invariant
