use Rattle.cl_check.proofs.ModelsInOrder.{legal_task_in_order}
use Rattle.cl_draw.proofs.StopFacts.{start_found}
use Rattle.cl_draw.proofs.stops.start_of.Goals as goal

pub moments-requires-clause-times : goal.moments-requires-clause-times
moments-requires-clause-times c =
    (legal_task_in_order c.args.model.now c.plain-valid.ensures.valid c.args.run.now c.requires.legal c.args.task c.requires.is_task).times

pub returns : goal.returns
returns c = start_found _ _ _ _ _ _ c.in_ok-found.ensures c.as_slice.ensures c.args.job c.requires.starts.1.in_table _ c.in-Some.start c.in-Some.is
