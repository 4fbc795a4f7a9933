use Rattle.cl_runs.proofs.Extension.{extension}
use Rattle.cl_runs.proofs.laws.extension.legal_runs_go_on.Goals as goal

pub returns : goal.returns
returns c = extension
