use Rattle.cl_text.proofs.MoreLines.{line_more}
use Rattle.cl_explain.specs.Accepted.{time_lines_of}
use Rattle.cl_explain.proofs.times.put_times.Goals as goal

pub loop-task-preserved : goal.loop-task-preserved
loop-task-preserved c =
    line_more (time_lines_of c.args.model.now) c.args.text.now c.loop-task.text c.put_times_of.new.text c.loop-task.task c.loop-task.invariant c.in_ok-put_times_of.ensures
