use Rattle.std.proofs.lemmas.Result.{IfOk-weaker}
use Rattle.cl_tune.proofs.OneHeadroom.{smaller_keep, none_exactly}
use Rattle.cl_tune.proofs.room.headroom.Goals as goal

pub returns-clause-smaller : goal.returns-clause-smaller
returns-clause-smaller g c =
    IfOk-weaker c.greatest_kept.result _ _ (smaller_keep c.args.model.now c.plain-valid.ensures.valid) c.greatest_kept.ensures

pub returns-clause-none : goal.returns-clause-none
returns-clause-none g c =
    IfOk-weaker c.greatest_kept.result _ _ (none_exactly c.args.model.now c.plain-valid.ensures.valid) c.greatest_kept.ensures
