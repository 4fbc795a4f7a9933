use Rattle.cl_observe.specs.{Values.IsSpreadOf, Inner.JobLists.{HasListedJitter, HasBelow}}
use Rattle.cl_observe.proofs.task_shown.jitters.Given as goal

-- these are the least and the greatest of those below the place
abbrev pub invariant-loop-place : goal.invariant-loop-place
invariant-loop-place l = IsSpreadOf (HasBelow l.place (HasListedJitter l.jobs)) l.spread
