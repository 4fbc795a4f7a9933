use Rattle.std.proofs.Common.{◌≡◌, ◌++◌, take}
use Rattle.std.specs.List.{flat_map}
use Rattle.cl_picture.specs.Pieces.{print}
use Rattle.cl_draw.specs.Picture.{task_name}
use Rattle.cl_draw.proofs.drawing.put_core_names.Given as goal

abbrev pub invariant-loop-task : goal.invariant-loop-task
invariant-loop-task l = l.text ≡ l.initial.text ++ print (flat_map (task_name l.model) (take l.task-index l.tasks))
