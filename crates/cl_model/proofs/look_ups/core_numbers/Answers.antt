use Rattle.cl_model.proofs.{NamePlaces.found_somewhere, NamesKnown.core_known_at}
use Rattle.cl_model.proofs.look_ups.core_numbers.Goals as goal

pub unreachable-requires : goal.unreachable-requires
unreachable-requires c =
    found_somewhere _ c.task-item.result.core _ _ c.number_of.ensures.found c.requires.cores
    (core_known_at c.args.model.now c.requires.valid _ c.loop-task.task-index c.task-item.result c.as_slice-task-items.ensures c.loop-task-test.true c.task-item.is)
    c.in_default.is
