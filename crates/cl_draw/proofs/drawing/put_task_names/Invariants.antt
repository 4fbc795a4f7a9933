use Rattle.std.proofs.Common.{◌≡◌, ◌++◌}
use Rattle.std.specs.List.{flat_map, range_with_len}
use Rattle.cl_picture.specs.Pieces.{print}
use Rattle.cl_draw.specs.Picture.{by_core, task_name}
use Rattle.cl_draw.proofs.drawing.put_task_names.Given as goal

abbrev pub invariant-loop-core : goal.invariant-loop-core
invariant-loop-core l = l.text ≡ l.initial.text ++ print (flat_map (by_core l.model (task_name l.model)) (range_with_len 0 l.core))
