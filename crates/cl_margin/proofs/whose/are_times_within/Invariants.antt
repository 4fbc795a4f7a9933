use Rattle.std.proofs.Common.{◌≡◌, true, take}
use Rattle.std.specs.List.{list_all}
use Rattle.cl_margin.specs.Inner.Touched.{are_times_within}
use Rattle.cl_margin.proofs.whose.are_times_within.Given as goal

-- the times of the tasks so far stay in range
abbrev pub invariant-loop-task : goal.invariant-loop-task
invariant-loop-task l = list_all (are_times_within l.percent) (take l.task-index l.task-items) ≡ true
