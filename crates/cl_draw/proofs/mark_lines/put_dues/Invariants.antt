use Rattle.std.proofs.Common.{◌≡◌, ◌++◌, take}
use Rattle.std.specs.List.{flat_map}
use Rattle.cl_picture.specs.Pieces.{pieces_text}
use Rattle.cl_draw.specs.MarkLines.{due_pieces}
use Rattle.cl_draw.proofs.mark_lines.put_dues.Given as goal

abbrev pub invariant-loop-due : goal.invariant-loop-due
invariant-loop-due l = l.text ≡ l.initial.text ++ pieces_text (flat_map (due_pieces l.window) (take l.due-index l.dues))
