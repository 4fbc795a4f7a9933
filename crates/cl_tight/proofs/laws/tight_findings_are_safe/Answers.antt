use Rattle.cl_tight.proofs.TightLaws.{tight_findings_safe}
use Rattle.cl_tight.proofs.laws.tight_findings_are_safe.Goals as goal

pub returns : goal.returns
returns c = tight_findings_safe
