use Rattle.cl_runs.proofs.PatternFacts.{distance_positive, first_ordered, least_within, gaps_ordered, greatest_within}
use Rattle.cl_runs.proofs.laws.patterns.gaps_lie_within_the_distances.Goals as goal

pub returns-clause-some : goal.returns-clause-some
returns-clause-some c = distance_positive

pub returns-clause-first : goal.returns-clause-first
returns-clause-first c = first_ordered

pub returns-clause-least : goal.returns-clause-least
returns-clause-least c = least_within

pub returns-clause-ordered : goal.returns-clause-ordered
returns-clause-ordered c = gaps_ordered

pub returns-clause-greatest : goal.returns-clause-greatest
returns-clause-greatest c = greatest_within
