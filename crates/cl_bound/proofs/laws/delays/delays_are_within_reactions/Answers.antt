use Rattle.cl_bound.proofs.DelayBounds.{delay_within_reaction, timed_delay}
use Rattle.cl_bound.proofs.laws.delays.delays_are_within_reactions.Goals as goal

pub returns-clause-reaction : goal.returns-clause-reaction
returns-clause-reaction c = delay_within_reaction

pub returns-clause-timed : goal.returns-clause-timed
returns-clause-timed c = timed_delay
