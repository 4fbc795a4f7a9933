use Rattle.std.proofs.Common.{refl, arith}
use Rattle.cl_draw.specs.ChainLines.{stop_pieces}
use Rattle.cl_picture.proofs.Printing.{no_pieces, listed_pieces, all_pieces}
use Rattle.cl_draw.proofs.reaction_lines.put_stops.Goals as goal

pub loop-stop-init : goal.loop-stop-init
loop-stop-init c = no_pieces _

pub loop-stop-preserved : goal.loop-stop-preserved
loop-stop-preserved c = listed_pieces (stop_pieces c.args.model.now) c.args.stops.now _ _ _ _ _ c.loop-stop.stop-index (omega arith) refl c.loop-stop.invariant c.in_ok-put_stop.ensures

pub returns : goal.returns
returns c = all_pieces (stop_pieces c.args.model.now) c.args.stops.now _ _ c.loop-stop.stop-index (omega arith) c.loop-stop.invariant
