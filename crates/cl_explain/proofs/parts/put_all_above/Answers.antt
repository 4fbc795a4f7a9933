use Rattle.cl_text.proofs.MoreLines.{line_more}
use Rattle.cl_explain.specs.Parts.{above_part}
use Rattle.cl_explain.proofs.parts.put_all_above.Goals as goal

pub loop-other-preserved : goal.loop-other-preserved
loop-other-preserved c =
    line_more (above_part c.args.model.now c.args.task c.args.width) c.args.text.now c.loop-other.text c.put_above.new.text c.loop-other.other c.loop-other.invariant c.in_ok-put_above.ensures
