use Rattle.std.proofs.Common.{◌≡◌, ◌++◌}
use Rattle.std.specs.List.{flat_map, range_with_len}
use Rattle.cl_picture.specs.{Pieces.pieces_text, Axis.{tick_at, tick_pieces}}
use Rattle.cl_picture.proofs.axis.put_lines.Given as goal

abbrev pub invariant-loop-k : goal.invariant-loop-k
invariant-loop-k l = l.text ≡ l.initial.text ++ pieces_text (flat_map (λ k. tick_pieces l.window l.bottom (tick_at l.window k)) (range_with_len 0 l.k))
