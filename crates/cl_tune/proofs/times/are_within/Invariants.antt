use Rattle.std.proofs.Common.{◌≡◌, take}
use Rattle.std.specs.List.{list_all}
use Rattle.cl_tune.specs.Inner.Times.{are_within}
use Rattle.cl_tune.proofs.times.are_within.Given as goal

-- whether those of the tasks so far do
abbrev pub invariant-loop-task : goal.invariant-loop-task
invariant-loop-task l = l.within ≡ list_all (are_within l.percent) (take l.task-index l.tasks)
