use Rattle.cl_model.specs.declared.place.Key.TheVariants as key
use Rattle.cl_model.specs.Place.{at_key}
use Rattle.cl_valid.proofs.UsesByTask.{new_labels}
use Rattle.cl_valid.proofs.runnables.checked_use.Goals as goal

pub returns-clause-new : goal.returns-clause-new
returns-clause-new c =
    new_labels (at_key key.Writes c.args.place) (at_key key.Writes c.args.place) c.args.written.now c.args.runnable.now.writes c.in_ok-check_contest.ensures.0 c.in_ok-writes.ensures.0
