use Rattle.cl_run_data.proofs.AlikeChains.{same_required}
use Rattle.cl_run_data.proofs.laws.parts.alike_runs_have_the_same_chains.Goals as goal

pub returns : goal.returns
returns c = λ system part whole groups alike. same_required system groups part whole (record { alike = alike })
