use Rattle.cl_runs.proofs.ChainsKept.{run_forward_kept, run_age_kept, run_reduced_kept}
use Rattle.cl_runs.proofs.laws.extension.complete_chains_stay.Goals as goal

pub returns-clause-forward : goal.returns-clause-forward
returns-clause-forward c = run_forward_kept

pub returns-clause-age : goal.returns-clause-age
returns-clause-age c = run_age_kept

pub returns-clause-reduced : goal.returns-clause-reduced
returns-clause-reduced c = run_reduced_kept
