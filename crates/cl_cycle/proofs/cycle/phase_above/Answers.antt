use Rattle.cl_model.proofs.ValidTasks.{kind_in_range, kind_ordered}
use Rattle.cl_cycle.proofs.cycle.phase_above.Goals as goal

pub of-requires-clause-range : goal.of-requires-clause-range
of-requires-clause-range c = rw c.stimulus_of.ensures (kind_in_range c.args.model.now c.is_above.ensures.valid c.args.other c.requires.other)

pub of-requires-clause-ordered : goal.of-requires-clause-ordered
of-requires-clause-ordered c = rw c.stimulus_of.ensures (kind_ordered c.args.model.now c.is_above.ensures.valid c.args.other c.requires.other)
