use Rattle.cl_phase.proofs.DelayReactions.{delay_within_reaction, timed_delay}
use Rattle.cl_phase.proofs.laws.delays.tight_delays_are_within_reactions.Goals as goal

pub returns-clause-reaction : goal.returns-clause-reaction
returns-clause-reaction c = delay_within_reaction

pub returns-clause-timed : goal.returns-clause-timed
returns-clause-timed c = timed_delay
