use Rattle.std.proofs.Common.{length, ap, arith}
use Rattle.cl_model.proofs.CoreTasks.{few_tasks}
use Rattle.cl_draw.proofs.PlaceFacts.{no_tops, one_more_top, top_most, all_tops}
use Rattle.cl_draw.proofs.places.core_tops.Goals as goal

pub overflow_mul-top : goal.overflow_mul-top
overflow_mul-top c = omega (arith, ap length c.tasks_of_core.ensures.tasks, few_tasks c.args.model.now c.cores-core-end.ensures.valid c.loop-core.core)

pub overflow_add-top : goal.overflow_add-top
overflow_add-top c = omega (
  arith,
  ap length c.tasks_of_core.ensures.tasks,
  few_tasks c.args.model.now c.cores-core-end.ensures.valid c.loop-core.core,
  c.loop-core.invariant.next,
  top_most c.args.model.now c.cores-core-end.ensures.valid c.loop-core.core,
  c.cores-core-end.ensures.valid.in_range.counts.cores,
  c.cores-core-end.ensures.count,
  c.loop-core-test.true,
)

pub overflow_add-top-in-loop-core : goal.overflow_add-top-in-loop-core
overflow_add-top-in-loop-core c = omega (
  arith,
  ap length c.tasks_of_core.ensures.tasks,
  few_tasks c.args.model.now c.cores-core-end.ensures.valid c.loop-core.core,
  c.loop-core.invariant.next,
  top_most c.args.model.now c.cores-core-end.ensures.valid c.loop-core.core,
  c.cores-core-end.ensures.valid.in_range.counts.cores,
  c.cores-core-end.ensures.count,
  c.loop-core-test.true,
)

pub loop-core-init : goal.loop-core-init
loop-core-init c = no_tops c.args.model.now c.new-tops.result c.new-tops.ensures

pub loop-core-preserved : goal.loop-core-preserved
loop-core-preserved c = one_more_top c.args.model.now c.loop-core.core c.loop-core.tops _ c.loop-core.top _ c.loop-core.invariant c.in_ok-push.ensures.ok
    (omega (arith, ap length c.tasks_of_core.ensures.tasks))

pub returns : goal.returns
returns c = all_tops c.args.model.now c.cores-core-end.ensures.valid c.loop-core.core c.loop-core.tops _ c.loop-core.top
    (omega (arith, c.loop-core-test.false, c.loop-core.auto.core-end, c.cores-core-end.ensures.count)) c.loop-core.invariant c.in_ok-push-2.ensures.ok
