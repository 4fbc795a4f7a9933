use Rattle.std.proofs.Common.{◌≡◌, ◌++◌}
use Rattle.std.specs.List.{flat_map, range_with_len}
use Rattle.cl_picture.specs.Pieces.{pieces_text}
use Rattle.cl_draw.specs.ChainLines.{step_pieces_at}
use Rattle.cl_draw.proofs.reaction_steps.put_steps.Given as goal

abbrev pub invariant-loop-k : goal.invariant-loop-k
invariant-loop-k l = l.text ≡ l.initial.text ++ pieces_text (flat_map (step_pieces_at l.model l.look l.reaction.stops) (range_with_len 0 l.k))
