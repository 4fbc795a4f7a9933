use Rattle.std.proofs.Common.{◌≡◌, ◌++◌}
use Rattle.std.specs.List.{flat_map, range_with_len}
use Rattle.cl_picture.specs.Pieces.{print}
use Rattle.cl_draw.specs.MarkLines.{label_at}
use Rattle.cl_draw.proofs.mark_lines.put_labels.Given as goal

abbrev pub invariant-loop-k : goal.invariant-loop-k
invariant-loop-k l = l.text ≡ l.initial.text ++ print (flat_map (label_at l.window l.arrivals) (range_with_len 0 l.k))
