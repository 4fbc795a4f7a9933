use Rattle.cl_text.proofs.MoreLines.{line_more}
use Rattle.cl_explain.specs.Accepted.{overloaded_line}
use Rattle.cl_explain.proofs.accepting.put_overloaded.Goals as goal

pub loop-core-preserved : goal.loop-core-preserved
loop-core-preserved c =
    line_more (overloaded_line c.args.model.now) c.args.text.now c.loop-core.text c.put_if_overloaded.new.text c.loop-core.core c.loop-core.invariant c.in_ok-put_if_overloaded.ensures
