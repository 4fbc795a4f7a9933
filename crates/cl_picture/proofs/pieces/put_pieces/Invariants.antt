use Rattle.std.proofs.Common.{◌≡◌, ◌++◌, map, take}
use Rattle.cl_picture.specs.Pieces.{piece_of, pieces_text}
use Rattle.cl_picture.proofs.pieces.put_pieces.Given as goal

abbrev pub invariant-loop-piece : goal.invariant-loop-piece
invariant-loop-piece l = l.text ≡ l.initial.text ++ pieces_text (map piece_of (take l.piece-index l.pieces))
