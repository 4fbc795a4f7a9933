use Rattle.cl_comm.proofs.Spots.{sum_before_fits, sum_after_fits, spot_is}
use Rattle.cl_comm.proofs.spot.spot_of.Goals as goal

pub least_times-requires : goal.least_times-requires
least_times-requires c = sum_before_fits c.runnables_of-runnables.result.now c.args.place c.runnables_of-runnables.ensures.fits

pub least_times-requires-2 : goal.least_times-requires-2
least_times-requires-2 c = sum_after_fits c.runnables_of-runnables.result.now c.args.place c.runnables_of-runnables.ensures.fits

pub returns : goal.returns
returns c = spot_is c.args.model.now c.args.task c.args.place c.runnables_of-runnables.result.now c.runnables_of-runnables.ensures.runnables _ _ _ _
    c.requires.is_task c.requires.is_runnable c.least_times.ensures c.least_times-2.ensures c.deadline_of.ensures
