use Rattle.cl_observe.specs.{Values.IsGreatestResponseOf, Inner.JobLists.{HasListedResponse, HasBelow}}
use Rattle.cl_observe.proofs.task_shown.greatest_response.Given as goal

-- it is the greatest of those below the place
abbrev pub invariant-loop-place : goal.invariant-loop-place
invariant-loop-place l = IsGreatestResponseOf (HasBelow l.place (HasListedResponse l.jobs l.finishes)) l.greatest
