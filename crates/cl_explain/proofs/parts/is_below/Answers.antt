use Rattle.cl_explain.proofs.TasksByNumber.{below_here, below_apart}
use Rattle.cl_explain.proofs.parts.is_below.Goals as goal

pub returns-then-core_of : goal.returns-then-core_of
returns-then-core_of c = below_here c.args.model.now c.args.task c.args.other c.requires.task c.requires.other c.core_of.result c.core_of-2.result c.core_of.ensures.core c.core_of-2.ensures.core
    c.task-then-core_of.result.now c.task.result.now c.if-core_of.true c.task-then-core_of.ensures.task c.task.ensures.task

pub returns-else-core_of : goal.returns-else-core_of
returns-else-core_of c = below_apart c.args.model.now c.args.task c.args.other c.requires.task c.requires.other c.core_of.result c.core_of-2.result c.core_of.ensures.core c.core_of-2.ensures.core
    c.if-core_of.false
