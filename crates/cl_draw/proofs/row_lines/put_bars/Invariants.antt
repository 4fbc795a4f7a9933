use Rattle.std.proofs.Common.{◌≡◌, ◌++◌, map, take}
use Rattle.cl_picture.specs.Pieces.{print}
use Rattle.cl_draw.specs.RowLines.{bar_line}
use Rattle.cl_draw.proofs.row_lines.put_bars.Given as goal

abbrev pub invariant-loop-bar : goal.invariant-loop-bar
invariant-loop-bar l = l.text ≡ l.initial.text ++ print (map (bar_line l.opening l.task) (take l.bar-index l.bars))
