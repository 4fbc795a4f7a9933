use Rattle.cl_runs.proofs.{ChainsUnique.{forward_once, age_once, reduced_once}, OrderedMoments.run_unique}
use Rattle.cl_runs.specs.RunChains.{run_moments}
use Rattle.cl_runs.proofs.laws.chains.complete_chains_are_unique.Goals as goal

pub returns-clause-forward : goal.returns-clause-forward
returns-clause-forward c = λ system run groups. forward_once (run_moments system run) groups (run_unique system run groups)

pub returns-clause-age : goal.returns-clause-age
returns-clause-age c = λ system run groups. age_once (run_moments system run) groups (run_unique system run groups)

pub returns-clause-reduced : goal.returns-clause-reduced
returns-clause-reduced c = λ system run groups. reduced_once (run_moments system run) groups (run_unique system run groups)
