use Rattle.cl_analyse.proofs.SafeFindings.{broken_found}
use Rattle.cl_analyse.proofs.laws.broken_requirements_are_broken.Goals as goal

pub returns : goal.returns
returns c = broken_found
