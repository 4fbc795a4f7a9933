use Rattle.cl_check.proofs.ModelsInOrder.{legal_task_in_order}
use Rattle.cl_draw.proofs.stops.finish_of.Goals as goal

pub moments-requires-clause-times : goal.moments-requires-clause-times
moments-requires-clause-times c =
    (legal_task_in_order c.args.model.now c.plain-valid.ensures.valid c.args.run.now c.requires.legal c.args.task c.requires.is_task).times
