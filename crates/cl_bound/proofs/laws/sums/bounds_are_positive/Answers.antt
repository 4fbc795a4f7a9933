use Rattle.cl_bound.proofs.SettledChains.{reaction_positive, age_positive, reduced_positive, delay_positive}
use Rattle.cl_bound.proofs.laws.sums.bounds_are_positive.Goals as goal

pub returns-clause-reaction : goal.returns-clause-reaction
returns-clause-reaction c = reaction_positive

pub returns-clause-age : goal.returns-clause-age
returns-clause-age c = age_positive

pub returns-clause-reduced : goal.returns-clause-reduced
returns-clause-reduced c = reduced_positive

pub returns-clause-delay : goal.returns-clause-delay
returns-clause-delay c = delay_positive
