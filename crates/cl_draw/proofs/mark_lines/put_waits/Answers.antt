use Rattle.std.proofs.Common.{refl, arith}
use Rattle.std.proofs.lemmas.Result.{IfOk-weaker}
use Rattle.cl_draw.specs.MarkLines.{wait_pieces}
use Rattle.cl_picture.proofs.Printing.{no_pieces, more_pieces, line_behind, listed_pieces, all_pieces}
use Rattle.cl_draw.proofs.mark_lines.put_waits.Goals as goal

pub loop-wait-init : goal.loop-wait-init
loop-wait-init c = no_pieces _

pub loop-wait-preserved : goal.loop-wait-preserved
loop-wait-preserved c = listed_pieces (wait_pieces c.args.window) c.args.waits.now _ _ _ _ _ c.loop-wait.wait-index (omega arith) refl c.loop-wait.invariant c.in_ok-put_wait.ensures

pub returns : goal.returns
returns c = IfOk-weaker c.put_line.result _ _ (λ _ is. line_behind _ _ _ _ _
    (more_pieces _ _ _ _ _ c.in_ok-put_pieces.ensures.ok (all_pieces (wait_pieces c.args.window) c.args.waits.now _ _ c.loop-wait.wait-index (omega arith) c.loop-wait.invariant)) is) c.put_line.ensures.ok
