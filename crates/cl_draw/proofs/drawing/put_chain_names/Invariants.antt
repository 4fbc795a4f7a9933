use Rattle.std.proofs.Common.{◌≡◌, ◌++◌}
use Rattle.std.specs.List.{flat_map, range_with_len}
use Rattle.cl_picture.specs.Pieces.{print}
use Rattle.cl_draw.specs.Picture.{chain_name}
use Rattle.cl_draw.proofs.drawing.put_chain_names.Given as goal

abbrev pub invariant-loop-chain : goal.invariant-loop-chain
invariant-loop-chain l = l.text ≡ l.initial.text ++ print (flat_map (chain_name l.model) (range_with_len 0 l.chain))
