use Rattle.cl_tight.proofs.PhasedTimings.{tight_keeps}
use Rattle.cl_tight.proofs.laws.timings.timings_by_phases_hold.Goals as goal

pub returns : goal.returns
returns c = tight_keeps
