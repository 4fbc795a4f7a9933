use Rattle.cl_runs.proofs.{ChainsUnique.{forward_once, age_once, reduced_once}, OrderedMoments.ideal_unique}
use Rattle.cl_runs.specs.RunChains.{ideal_moments}
use Rattle.cl_runs.proofs.laws.chains.ideal_chains_are_unique.Goals as goal

pub returns-clause-forward : goal.returns-clause-forward
returns-clause-forward c = λ system groups. forward_once (ideal_moments system) groups (ideal_unique system groups)

pub returns-clause-age : goal.returns-clause-age
returns-clause-age c = λ system groups. age_once (ideal_moments system) groups (ideal_unique system groups)

pub returns-clause-reduced : goal.returns-clause-reduced
returns-clause-reduced c = λ system groups. reduced_once (ideal_moments system) groups (ideal_unique system groups)
