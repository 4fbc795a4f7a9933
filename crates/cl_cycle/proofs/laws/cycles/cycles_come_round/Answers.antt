use Rattle.cl_cycle.proofs.CycleMembers.{cycle_positive, own_divides, members_come_round}
use Rattle.cl_cycle.proofs.laws.cycles.cycles_come_round.Goals as goal

pub returns-clause-some : goal.returns-clause-some
returns-clause-some c = cycle_positive

pub returns-clause-own : goal.returns-clause-own
returns-clause-own c = own_divides

pub returns-clause-in_phase : goal.returns-clause-in_phase
returns-clause-in_phase c = members_come_round
