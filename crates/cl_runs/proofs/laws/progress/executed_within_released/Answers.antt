use Rattle.cl_runs.proofs.LegalFacts.{executed_released}
use Rattle.cl_runs.proofs.laws.progress.executed_within_released.Goals as goal

pub returns : goal.returns
returns c = executed_released
