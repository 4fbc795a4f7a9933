use Rattle.cl_text.proofs.MoreLines.{line_more}
use Rattle.cl_why.specs.Shares.{above_share}
use Rattle.cl_why.proofs.shares.put_all_above.Goals as goal

pub loop-other-preserved : goal.loop-other-preserved
loop-other-preserved c =
    line_more (above_share c.args.model.now c.args.window.now.task c.args.window.now.worst) c.args.text.now c.loop-other.text c.put_above.new.text c.loop-other.other
    c.loop-other.invariant c.in_ok-put_above.ensures
