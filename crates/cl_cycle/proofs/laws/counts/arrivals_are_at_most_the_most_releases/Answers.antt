use Rattle.cl_cycle.proofs.CountedMost.{most_arrivals}
use Rattle.cl_cycle.proofs.laws.counts.arrivals_are_at_most_the_most_releases.Goals as goal

pub returns : goal.returns
returns c = most_arrivals
