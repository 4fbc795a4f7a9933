use Rattle.std.proofs.Common.{arith}
use Rattle.cl_model.proofs.ValidTasks.{time_few}
use Rattle.cl_model.proofs.look_ups.LookUps.add_task.Goals as goal

pub greatest_time-requires : goal.greatest_time-requires
greatest_time-requires c = omega (arith, time_few c.args.task.now c.requires.in_range)
