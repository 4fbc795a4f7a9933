use Rattle.std.proofs.Common.{arith}
use Rattle.cl_text.proofs.MoreLines.{line_more}
use Rattle.cl_explain.specs.Accepted.{late_task_line}
use Rattle.cl_explain.proofs.accepting.put_late.Goals as goal

pub loop-task-preserved : goal.loop-task-preserved
loop-task-preserved g c = (
  line_more (late_task_line c.args.model.now) c.args.text.now c.loop-task.text c.put_if_late.new.text c.loop-task.task c.loop-task.invariant.0 c.in_ok-put_if_late.ensures.text,
  omega (arith, c.loop-task.invariant.1, c.put_if_late.ensures.steps),
)
