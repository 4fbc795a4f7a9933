use Rattle.std.proofs.Common.{◌≡◌, ◌++◌, take}
use Rattle.std.specs.List.{flat_map}
use Rattle.cl_picture.specs.Pieces.{pieces_text}
use Rattle.cl_draw.specs.ChainLines.{stop_pieces}
use Rattle.cl_draw.proofs.reaction_lines.put_stops.Given as goal

abbrev pub invariant-loop-stop : goal.invariant-loop-stop
invariant-loop-stop l = l.text ≡ l.initial.text ++ pieces_text (flat_map (stop_pieces l.model) (take l.stop-index l.stops))
