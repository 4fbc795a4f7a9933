use Rattle.std.proofs.Common.{◌≡◌, ◌++◌, map, take}
use Rattle.cl_picture.specs.Pieces.{print}
use Rattle.cl_draw.specs.ChainLines.{frame_line}
use Rattle.cl_draw.proofs.reaction_lines.put_frames.Given as goal

abbrev pub invariant-loop-stop : goal.invariant-loop-stop
invariant-loop-stop l = l.text ≡ l.initial.text ++ print (map (frame_line l.model l.look) (take l.stop-index l.stops))
