use Rattle.cl_hop.proofs.ReactionIsAge.{reaction_is_age}
use Rattle.cl_bound.proofs.ReactionIsAge.{bound_on_reaction_is_on_age}
use Rattle.cl_bound.proofs.laws.sums.reaction_equals_age.Goals as goal

pub returns-clause-sums : goal.returns-clause-sums
returns-clause-sums c = reaction_is_age

pub returns-clause-bounds : goal.returns-clause-bounds
returns-clause-bounds c = bound_on_reaction_is_on_age
