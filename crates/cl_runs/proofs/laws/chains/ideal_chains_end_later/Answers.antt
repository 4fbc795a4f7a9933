use Rattle.cl_runs.proofs.ChainsOfRuns.{ideal_forward_ordered, ideal_age_ordered, ideal_reduced_ordered}
use Rattle.cl_runs.proofs.laws.chains.ideal_chains_end_later.Goals as goal

pub returns-clause-forward : goal.returns-clause-forward
returns-clause-forward c = ideal_forward_ordered

pub returns-clause-age : goal.returns-clause-age
returns-clause-age c = ideal_age_ordered

pub returns-clause-reduced : goal.returns-clause-reduced
returns-clause-reduced c = ideal_reduced_ordered
