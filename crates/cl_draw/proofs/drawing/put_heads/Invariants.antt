use Rattle.std.proofs.Common.{◌≡◌, ◌++◌, map}
use Rattle.std.specs.List.{range_with_len}
use Rattle.cl_picture.specs.Pieces.{print}
use Rattle.cl_draw.specs.Picture.{core_head}
use Rattle.cl_draw.proofs.drawing.put_heads.Given as goal

abbrev pub invariant-loop-core : goal.invariant-loop-core
invariant-loop-core l = l.text ≡ l.initial.text ++ print (map (core_head l.model) (range_with_len 0 l.core))
