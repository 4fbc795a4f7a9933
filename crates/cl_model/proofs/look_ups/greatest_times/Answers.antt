use Rattle.std.proofs.Common.{arith, subst, sym}
use Rattle.cl_model.specs.Ranges.{IsTaskInRange}
use Rattle.cl_model.proofs.ValidTasks.{time_few}
use Rattle.cl_model.proofs.look_ups.greatest_times.Goals as goal

pub greatest_time-requires : goal.greatest_time-requires
greatest_time-requires c =
    let in_range = subst IsTaskInRange (sym c.task-item.is) (c.requires c.loop-task.task-index c.task-item.result c.loop-task-test.true) in
    omega (arith, time_few c.task-item.result in_range)
