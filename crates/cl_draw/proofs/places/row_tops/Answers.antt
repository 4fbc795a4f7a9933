use Rattle.std.proofs.Common.{refl, arith}
use Rattle.cl_draw.proofs.PlaceFacts.{row_fits, one_more_row}
use Rattle.cl_draw.proofs.places.row_tops.Goals as goal

pub overflow_add-top : goal.overflow_add-top
overflow_add-top c = omega (
  arith,
  row_fits c.args.model.now c.tasks-task-end.ensures.valid c.loop-task.task c.core_of-core.result _ _ c.index-top.result.now _ c.loop-task.invariant
      (omega (arith, c.loop-task-test.true, c.loop-task.auto.task-end, c.tasks-task-end.ensures.count)) c.core_of-core.ensures.core c.core_of-core.ensures.within c.index-top.ensures,
)

pub loop-task-preserved : goal.loop-task-preserved
loop-task-preserved c = one_more_row c.args.model.now c.tasks-task-end.ensures.valid c.loop-task.task c.core_of-core.result _ _ c.index-top.result.now _ c.loop-task.invariant
    (omega (arith, c.loop-task-test.true, c.loop-task.auto.task-end, c.tasks-task-end.ensures.count)) c.core_of-core.ensures.core c.core_of-core.ensures.within c.index-top.ensures
    _ _ refl c.in_ok-push.ensures.ok
