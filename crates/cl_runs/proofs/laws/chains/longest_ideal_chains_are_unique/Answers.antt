use Rattle.cl_runs.proofs.{MeasuredOnce.longest_once, ChainsUnique.{forward_once, age_once, reduced_once}, OrderedMoments.ideal_unique}
use Rattle.cl_runs.specs.{Chains.{first_job, last_job, IsForwardChain, IsAgeChain, IsReducedChain}, RunChains.ideal_moments}
use Rattle.cl_runs.proofs.laws.chains.longest_ideal_chains_are_unique.Goals as goal

pub returns-clause-forward : goal.returns-clause-forward
returns-clause-forward c = λ system groups. longest_once (IsForwardChain (ideal_moments system) groups) first_job
    (forward_once (ideal_moments system) groups (ideal_unique system groups))

pub returns-clause-age : goal.returns-clause-age
returns-clause-age c = λ system groups. longest_once (IsAgeChain (ideal_moments system) groups) last_job
    (age_once (ideal_moments system) groups (ideal_unique system groups))

pub returns-clause-reduced : goal.returns-clause-reduced
returns-clause-reduced c = λ system groups. longest_once (IsReducedChain (ideal_moments system) groups) last_job
    (reduced_once (ideal_moments system) groups (ideal_unique system groups))
