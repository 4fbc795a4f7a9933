use Rattle.std.proofs.Common.{arith}
use Rattle.std.proofs.lemmas.Grind.{common_steps}
use Rattle.cl_comm.proofs.Spots.{least_sum_fits}
use Rattle.cl_comm.proofs.spot.runnables_of.Goals as goal

pub returns-clause-fits : goal.returns-clause-fits
returns-clause-fits c =
    least_sum_fits c.args.model.now c.task.ensures.valid c.args.task c.requires c.as_slice.result.now (grind (arith, common_steps))
