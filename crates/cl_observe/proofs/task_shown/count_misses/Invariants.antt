use Rattle.cl_observe.specs.{Values.CountsBelow, Inner.JobLists.IsJobUnfinished}
use Rattle.cl_observe.proofs.task_shown.count_misses.Given as goal

-- those below the place are counted
abbrev pub invariant-loop-place : goal.invariant-loop-place
invariant-loop-place l = CountsBelow (IsJobUnfinished l.jobs l.finishes l.deadline l.ticks) l.place l.count
