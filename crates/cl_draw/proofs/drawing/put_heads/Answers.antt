use Rattle.std.proofs.Common.{length, arith}
use Rattle.std.proofs.lemmas.Result.{IfOk-weaker}
use Rattle.cl_draw.specs.Picture.{core_head, heads}
use Rattle.cl_picture.proofs.Printing.{no_elements, more_elements, numbered_lines, all_numbered_lines}
use Rattle.cl_draw.proofs.drawing.put_heads.Goals as goal

pub loop-core-init : goal.loop-core-init
loop-core-init c = no_elements _

pub loop-core-preserved : goal.loop-core-preserved
loop-core-preserved c = numbered_lines (core_head c.args.model.now) _ _ _ c.loop-core.core c.loop-core.invariant c.in_ok-put_core_head.ensures

pub returns : goal.returns
unfolding heads
returns c = IfOk-weaker c.put_chains_head.result _ _ (λ _ is. more_elements _ _ _ _ _
    (all_numbered_lines (core_head c.args.model.now) _ _ c.loop-core.core (length c.args.model.now.cores)
    (omega (arith, c.loop-core-test.false, c.loop-core.auto.core-end, c.cores-core-end.ensures.count)) c.loop-core.invariant) is) c.put_chains_head.ensures
