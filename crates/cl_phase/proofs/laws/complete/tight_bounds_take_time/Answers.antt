use Rattle.cl_phase.proofs.SomeTicks.{take_time}
use Rattle.cl_phase.proofs.laws.complete.tight_bounds_take_time.Goals as goal

pub returns : goal.returns
returns c = take_time
