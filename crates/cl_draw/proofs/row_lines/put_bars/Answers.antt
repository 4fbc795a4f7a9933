use Rattle.std.proofs.Common.{refl, arith}
use Rattle.cl_draw.specs.RowLines.{bar_line}
use Rattle.cl_picture.proofs.Printing.{no_elements, listed_lines, all_lines}
use Rattle.cl_draw.proofs.row_lines.put_bars.Goals as goal

pub loop-bar-init : goal.loop-bar-init
loop-bar-init c = no_elements _

pub loop-bar-preserved : goal.loop-bar-preserved
loop-bar-preserved c = listed_lines (bar_line c.args.opening.now c.args.task.now) c.args.bars.now _ _ _ _ _ c.loop-bar.bar-index (omega arith) refl c.loop-bar.invariant c.in_ok-put_bar.ensures

pub returns : goal.returns
returns c = all_lines (bar_line c.args.opening.now c.args.task.now) c.args.bars.now _ _ c.loop-bar.bar-index (omega arith) c.loop-bar.invariant
