use Rattle.std.proofs.Common.{refl, arith}
use Rattle.std.proofs.lemmas.Result.{IfOk-weaker}
use Rattle.cl_draw.specs.MarkLines.{arrival_pieces}
use Rattle.cl_picture.proofs.Printing.{no_pieces, more_pieces, line_behind, listed_pieces, all_pieces}
use Rattle.cl_draw.proofs.mark_lines.put_arrivals.Goals as goal

pub loop-arrival-init : goal.loop-arrival-init
loop-arrival-init c = no_pieces _

pub loop-arrival-preserved : goal.loop-arrival-preserved
loop-arrival-preserved c = listed_pieces (arrival_pieces c.args.window) c.args.arrivals.now _ _ _ _ _ c.loop-arrival.arrival-index (omega arith) refl c.loop-arrival.invariant c.in_ok-put_arrival.ensures

pub returns : goal.returns
returns c = IfOk-weaker c.put_line.result _ _ (λ _ is. line_behind _ _ _ _ _
    (more_pieces _ _ _ _ _ c.in_ok-put_pieces.ensures.ok (all_pieces (arrival_pieces c.args.window) c.args.arrivals.now _ _ c.loop-arrival.arrival-index (omega arith) c.loop-arrival.invariant)) is) c.put_line.ensures.ok
