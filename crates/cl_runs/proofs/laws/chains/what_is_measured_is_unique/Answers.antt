use Rattle.cl_runs.proofs.{MeasuredOnce.measured_once, OrderedMoments.run_unique}
use Rattle.cl_runs.specs.RunChains.{run_moments}
use Rattle.cl_runs.proofs.laws.chains.what_is_measured_is_unique.Goals as goal

pub returns : goal.returns
returns c = λ system run groups. measured_once (run_moments system run) groups (run_unique system run groups)
