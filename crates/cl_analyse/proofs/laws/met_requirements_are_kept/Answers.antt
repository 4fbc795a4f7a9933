use Rattle.cl_analyse.proofs.SafeFindings.{met_found}
use Rattle.cl_analyse.proofs.laws.met_requirements_are_kept.Goals as goal

pub returns : goal.returns
returns c = met_found
