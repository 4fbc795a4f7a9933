use Rattle.cl_phase.proofs.DelayReads.{writers_by_deadline_read_first}
use Rattle.cl_phase.proofs.laws.delays.groups_read_before_next.Goals as goal

pub returns : goal.returns
returns c = writers_by_deadline_read_first
