use Rattle.std.proofs.Common.{refl, arith}
use Rattle.cl_draw.specs.ChainLines.{frame_line}
use Rattle.cl_picture.proofs.Printing.{no_elements, listed_lines, all_lines}
use Rattle.cl_draw.proofs.reaction_lines.put_frames.Goals as goal

pub loop-stop-init : goal.loop-stop-init
loop-stop-init c = no_elements _

pub loop-stop-preserved : goal.loop-stop-preserved
loop-stop-preserved c = listed_lines (frame_line c.args.model.now c.args.look) c.args.stops.now _ _ _ _ _ c.loop-stop.stop-index (omega arith) refl c.loop-stop.invariant c.in_ok-put_frame.ensures

pub returns : goal.returns
returns c = all_lines (frame_line c.args.model.now c.args.look) c.args.stops.now _ _ c.loop-stop.stop-index (omega arith) c.loop-stop.invariant
