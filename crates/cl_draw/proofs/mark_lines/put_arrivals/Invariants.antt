use Rattle.std.proofs.Common.{◌≡◌, ◌++◌, take}
use Rattle.std.specs.List.{flat_map}
use Rattle.cl_picture.specs.Pieces.{pieces_text}
use Rattle.cl_draw.specs.MarkLines.{arrival_pieces}
use Rattle.cl_draw.proofs.mark_lines.put_arrivals.Given as goal

abbrev pub invariant-loop-arrival : goal.invariant-loop-arrival
invariant-loop-arrival l = l.text ≡ l.initial.text ++ pieces_text (flat_map (arrival_pieces l.window) (take l.arrival-index l.arrivals))
