use Rattle.cl_observe.specs.{Values.IsSpreadOf, Inner.JobLists.{HasListedTime, HasBelow}}
use Rattle.cl_observe.proofs.task_shown.times.Given as goal

-- these are the least and the greatest of those of the jobs before this one
abbrev pub invariant-loop-job : goal.invariant-loop-job
invariant-loop-job l = IsSpreadOf (HasBelow l.job (HasListedTime l.jobs l.finishes l.place)) l.spread
