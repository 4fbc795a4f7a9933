use Rattle.cl_resp.proofs.LeastParts.{settled_timely, settled_through}
use Rattle.cl_resp.proofs.laws.by_phase.responses_by_phase_hold.Goals as goal

pub returns-clause-timely : goal.returns-clause-timely
returns-clause-timely c = settled_timely

pub returns-clause-through : goal.returns-clause-through
returns-clause-through c = settled_through
