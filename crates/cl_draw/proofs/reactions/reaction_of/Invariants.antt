use Rattle.cl_model.specs.Groups.{groups_at}
use Rattle.cl_runs.specs.{RunChains.run_moments, SystemOf.system_of}
use Rattle.cl_draw.proofs.ReactionFacts.{AreStopsBelow}
use Rattle.cl_draw.proofs.reactions.reaction_of.Given as goal

abbrev pub invariant-loop-place : goal.invariant-loop-place
invariant-loop-place l = AreStopsBelow (run_moments (system_of l.model) l.run) (groups_at l.model l.chain) l.longest.jobs l.place l.stops
