use Rattle.std.proofs.Common.{◌≡◌, ◌++◌, drop}
use Rattle.std.specs.List.{flat_map}
use Rattle.cl_designs.specs.Cuts.{piece_words}
use Rattle.cl_designs.proofs.cuts.put_pieces.Given as goal

-- what is put and what is left make the whole
abbrev pub invariant-loop-first : goal.invariant-loop-first
invariant-loop-first l = l.text ++ flat_map piece_words (drop l.first-index l.pieces) ≡ l.initial.text ++ flat_map piece_words l.pieces
