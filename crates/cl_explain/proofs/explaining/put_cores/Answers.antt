use Rattle.cl_text.proofs.MoreLines.{line_more}
use Rattle.cl_explain.specs.Explanation.{core_line}
use Rattle.cl_explain.proofs.explaining.put_cores.Goals as goal

pub loop-core-preserved : goal.loop-core-preserved
loop-core-preserved c = line_more (core_line c.args.model.now) c.args.text.now c.loop-core.text c.put_core.new.text c.loop-core.core c.loop-core.invariant c.in_ok-put_core.ensures
