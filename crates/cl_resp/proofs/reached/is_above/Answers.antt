use Rattle.cl_resp.proofs.SearchesOfCores.{higher_there, elsewhere}
use Rattle.cl_resp.proofs.reached.is_above.Goals as goal

pub returns-then-core_of-clause-above : goal.returns-then-core_of-clause-above
returns-then-core_of-clause-above c =
    higher_there c.args.model.now c.args.task c.args.other c.requires.task c.requires.other c.core_of-2.result c.core_of.result c.core_of-2.ensures.core c.core_of.ensures.core
    c.task.result.now c.task-then-core_of.result.now c.task.ensures.task c.task-then-core_of.ensures.task c.if-core_of.true

pub returns-else-core_of-clause-above : goal.returns-else-core_of-clause-above
returns-else-core_of-clause-above c =
    elsewhere c.args.model.now c.args.task c.args.other c.requires.task c.requires.other c.core_of-2.result c.core_of.result c.core_of-2.ensures.core c.core_of.ensures.core
    c.if-core_of.false
