use Rattle.std.proofs.Common.{take}
use Rattle.cl_check.specs.InOrder.{AreTimesPositive}
use Rattle.cl_check.proofs.in_order.all_take_time.Given as goal

abbrev pub invariant-loop-job : goal.invariant-loop-job
invariant-loop-job l = AreTimesPositive (take l.job-index l.jobs)
