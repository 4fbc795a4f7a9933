use Rattle.cl_observe.proofs.LegalValues.{legal_within}
use Rattle.cl_observe.proofs.laws.legal_runs_show_nothing_outside.Goals as goal

pub returns : goal.returns
returns c = legal_within
