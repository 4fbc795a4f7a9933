use Rattle.cl_runs.proofs.ChainsOfRuns.{run_forward_ordered, run_age_ordered, run_reduced_ordered}
use Rattle.cl_runs.proofs.laws.chains.complete_chains_end_later.Goals as goal

pub returns-clause-forward : goal.returns-clause-forward
returns-clause-forward c = run_forward_ordered

pub returns-clause-age : goal.returns-clause-age
returns-clause-age c = run_age_ordered

pub returns-clause-reduced : goal.returns-clause-reduced
returns-clause-reduced c = run_reduced_ordered
