use Rattle.std.proofs.Common.{arith}
use Rattle.cl_text.proofs.MoreLines.{line_more}
use Rattle.cl_tight.proofs.TightLengths.{tight_tasks_found}
use Rattle.cl_designs.specs.Margins.{late_line}
use Rattle.cl_designs.proofs.margins.put_late.Goals as goal

pub put_if_late-requires-clause-found : goal.put_if_late-requires-clause-found
put_if_late-requires-clause-found c =
    omega (arith, tight_tasks_found c.args.model.now c.args.found.now c.requires.findings, c.loop-task-test.true, c.tasks-task-end.ensures.count)

pub loop-task-preserved : goal.loop-task-preserved
loop-task-preserved c =
    line_more (late_line c.args.model.now c.args.found.now) c.args.text.now c.loop-task.text c.put_if_late.new.text c.loop-task.task c.loop-task.invariant c.in_ok-put_if_late.ensures
