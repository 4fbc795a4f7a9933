use Rattle.cl_designs.specs.Orders.{priority_line}
use Rattle.cl_text.proofs.MoreLines.{line_more}
use Rattle.cl_designs.proofs.orders.put_priorities.Goals as goal

pub loop-task-preserved : goal.loop-task-preserved
loop-task-preserved c =
    line_more (priority_line c.args.model.now c.args.priorities.now) c.args.text.now c.loop-task.text c.put_priority.new.text c.loop-task.task c.loop-task.invariant c.in_ok-put_priority.ensures
