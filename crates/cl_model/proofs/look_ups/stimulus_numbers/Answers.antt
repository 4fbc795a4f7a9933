use Rattle.cl_model.proofs.NamesKnown.{stimulus_unnumbered}
use Rattle.cl_model.proofs.look_ups.stimulus_numbers.Goals as goal

pub unreachable-requires : goal.unreachable-requires
unreachable-requires c =
    stimulus_unnumbered c.args.model.now c.requires.valid _ c.loop-task.task-index c.task-item.result _ _ c.as_slice-task-items.ensures c.loop-task-test.true c.task-item.is
    c.requires.stimuli c.number_of.ensures.number c.in_default.is
