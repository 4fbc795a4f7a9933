use Rattle.cl_cycle.proofs.CycleLengths.{cycle_short}
use Rattle.cl_cycle.proofs.laws.cycles.cycles_are_short.Goals as goal

pub returns : goal.returns
returns c = cycle_short
