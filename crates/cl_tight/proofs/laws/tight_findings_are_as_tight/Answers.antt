use Rattle.cl_tight.proofs.TightLaws.{tight_findings_as_tight}
use Rattle.cl_tight.proofs.laws.tight_findings_are_as_tight.Goals as goal

pub returns : goal.returns
returns c = tight_findings_as_tight
