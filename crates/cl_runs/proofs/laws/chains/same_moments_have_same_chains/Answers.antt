use Rattle.cl_runs.specs.RunChains.{ideal_moments}
use Rattle.cl_runs.proofs.SameMoments.{forward_also, age_also, reduced_also}
use Rattle.cl_runs.proofs.laws.chains.same_moments_have_same_chains.Goals as goal

pub returns-clause-forward : goal.returns-clause-forward
returns-clause-forward c = λ one other. forward_also (ideal_moments one) (ideal_moments other)

pub returns-clause-age : goal.returns-clause-age
returns-clause-age c = λ one other. age_also (ideal_moments one) (ideal_moments other)

pub returns-clause-reduced : goal.returns-clause-reduced
returns-clause-reduced c = λ one other. reduced_also (ideal_moments one) (ideal_moments other)
