use Rattle.cl_phase.proofs.TightSafety.{kept_safe}
use Rattle.cl_phase.proofs.laws.safety.tight_bounds_are_safe.Goals as goal

pub returns : goal.returns
returns c = kept_safe
