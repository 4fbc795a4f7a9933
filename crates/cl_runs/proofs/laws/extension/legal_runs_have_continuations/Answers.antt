use Rattle.cl_runs.proofs.Continuing.{continuation, has_continuation}
use Rattle.cl_runs.proofs.laws.extension.legal_runs_have_continuations.Goals as goal

pub returns-clause-continuation : goal.returns-clause-continuation
returns-clause-continuation c = continuation

pub returns-clause-every_length : goal.returns-clause-every_length
returns-clause-every_length c = has_continuation
