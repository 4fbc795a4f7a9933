use Rattle.cl_model.proofs.RunnableNames.{runnable_names_more, runnables_new}
use Rattle.cl_model.proofs.groups.names_of_runnables.Goals as goal

pub add_names-requires : goal.add_names-requires
add_names-requires c = runnables_new c.args.tasks.now c.loop-task.task-index c.task-item.result c.as_slice.result.now c.loop-task.names c.requires c.loop-task-test.true c.task-item.is c.as_slice.ensures c.loop-task.invariant

pub loop-task-preserved : goal.loop-task-preserved
loop-task-preserved c =
    runnable_names_more c.args.tasks.now c.loop-task.task-index c.task-item.result c.as_slice.result.now c.loop-task.names c.add_names.new.names c.loop-task-test.true c.task-item.is c.as_slice.ensures c.loop-task.invariant c.in_ok-add_names.ensures
