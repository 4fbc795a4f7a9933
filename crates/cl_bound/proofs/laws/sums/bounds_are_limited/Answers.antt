use Rattle.cl_bound.proofs.SettledChains.{limited}
use Rattle.cl_bound.proofs.laws.sums.bounds_are_limited.Goals as goal

pub returns-clause-reaction : goal.returns-clause-reaction
returns-clause-reaction c = λ system sound groups chain most within. (limited system sound groups chain most within).reaction

pub returns-clause-age : goal.returns-clause-age
returns-clause-age c = λ system sound groups chain most within. (limited system sound groups chain most within).age

pub returns-clause-reduced : goal.returns-clause-reduced
returns-clause-reduced c = λ system sound groups chain most within. (limited system sound groups chain most within).reduced

pub returns-clause-delay : goal.returns-clause-delay
returns-clause-delay c = λ system sound groups chain most within. (limited system sound groups chain most within).delay
