use Rattle.cl_analyse.proofs.SafeFindings.{findings_safe}
use Rattle.cl_analyse.proofs.laws.findings_are_safe.Goals as goal

pub returns : goal.returns
returns c = findings_safe
