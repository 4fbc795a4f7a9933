use Rattle.std.proofs.Common.{refl, arith}
use Rattle.std.proofs.lemmas.Result.{IfOk-weaker}
use Rattle.cl_draw.specs.MarkLines.{due_pieces}
use Rattle.cl_picture.proofs.Printing.{no_pieces, more_pieces, line_behind, listed_pieces, all_pieces}
use Rattle.cl_draw.proofs.mark_lines.put_dues.Goals as goal

pub loop-due-init : goal.loop-due-init
loop-due-init c = no_pieces _

pub loop-due-preserved : goal.loop-due-preserved
loop-due-preserved c = listed_pieces (due_pieces c.args.window) c.args.dues.now _ _ _ _ _ c.loop-due.due-index (omega arith) refl c.loop-due.invariant c.in_ok-put_due.ensures

pub returns : goal.returns
returns c = IfOk-weaker c.put_line.result _ _ (λ _ is. line_behind _ _ _ _ _
    (more_pieces _ _ _ _ _ c.in_ok-put_pieces.ensures.ok (all_pieces (due_pieces c.args.window) c.args.dues.now _ _ c.loop-due.due-index (omega arith) c.loop-due.invariant)) is) c.put_line.ensures.ok
