use Rattle.cl_cycle.proofs.SameCycles.{same_above, same_in_phase, same_cycle}
use Rattle.cl_cycle.proofs.laws.cycles.runnables_change_no_cycle.Goals as goal

pub returns-clause-above : goal.returns-clause-above
returns-clause-above c = same_above

pub returns-clause-in_phase : goal.returns-clause-in_phase
returns-clause-in_phase c = same_in_phase

pub returns-clause-ticks : goal.returns-clause-ticks
returns-clause-ticks c = same_cycle
