use Rattle.std.proofs.Common.{◌-◌, ◌++◌, List, length, ap, ◌∙◌, arith}
use Rattle.std.proofs.lemmas.Result.{IfOk-weaker}
use Rattle.cl_picture.specs.Pieces.{pieces_text}
use Rattle.cl_draw.specs.{declared.stops.Stop.Stop, ChainLines.step_pieces_at}
use Rattle.cl_picture.proofs.Printing.{no_pieces, more_pieces, line_behind, numbered_pieces, all_numbered_pieces}
use Rattle.cl_draw.proofs.reaction_steps.put_steps.Goals as goal

pub loop-k-init : goal.loop-k-init
loop-k-init c = no_pieces _

pub loop-k-preserved : goal.loop-k-preserved
loop-k-preserved c = numbered_pieces (step_pieces_at c.args.model.now c.args.look c.args.reaction.now.stops) _ _ _ c.loop-k.k c.loop-k.invariant
    (c.in_ok-put_step_at.ensures ∙ ap (λ (ss : List Stop). c.loop-k.text ++ pieces_text (step_pieces_at c.args.model.now c.args.look ss c.loop-k.k)) c.as_slice-stops.ensures)

pub returns : goal.returns
returns c =
    IfOk-weaker c.put_line.result _ _ (λ _ is. line_behind _ _ _ _ _ (more_pieces _ _ _ _ _ c.in_ok-put_steps_head.ensures
    (all_numbered_pieces (step_pieces_at c.args.model.now c.args.look c.args.reaction.now.stops) _ _ c.loop-k.k (length c.args.reaction.now.stops - 1)
    (omega (arith, c.loop-k-test.false, c.loop-k.auto.k-end, ap length c.as_slice-stops.ensures)) c.loop-k.invariant)) is) c.put_line.ensures.ok
