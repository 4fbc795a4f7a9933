use Rattle.std.proofs.Common.{◌≡◌, ◌++◌, take}
use Rattle.std.specs.List.{flat_map}
use Rattle.cl_picture.specs.Pieces.{pieces_text}
use Rattle.cl_draw.specs.MarkLines.{wait_pieces}
use Rattle.cl_draw.proofs.mark_lines.put_waits.Given as goal

abbrev pub invariant-loop-wait : goal.invariant-loop-wait
invariant-loop-wait l = l.text ≡ l.initial.text ++ pieces_text (flat_map (wait_pieces l.window) (take l.wait-index l.waits))
