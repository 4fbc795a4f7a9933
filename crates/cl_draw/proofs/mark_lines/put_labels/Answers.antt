use Rattle.std.proofs.Common.{length, arith}
use Rattle.cl_draw.specs.MarkLines.{label_at}
use Rattle.cl_picture.proofs.Printing.{no_elements, numbered_elements, all_numbered}
use Rattle.cl_draw.proofs.mark_lines.put_labels.Goals as goal

pub loop-k-init : goal.loop-k-init
loop-k-init c = no_elements _

pub loop-k-preserved : goal.loop-k-preserved
loop-k-preserved c = numbered_elements (label_at c.args.window c.args.arrivals.now) _ _ _ c.loop-k.k c.loop-k.invariant (c.in_ok-put_label_at.ensures)

pub returns : goal.returns
returns c = all_numbered (label_at c.args.window c.args.arrivals.now) _ _ c.loop-k.k (length c.args.arrivals.now) (omega (arith, c.loop-k-test.false, c.loop-k.auto.k-end)) c.loop-k.invariant
