use Rattle.std.proofs.Common.{◌≡◌, ◌++◌, take}
use Rattle.std.specs.List.{flat_map, filter}
use Rattle.cl_explain.specs.Accepted.{names_stimulus, apart_line}
use Rattle.cl_explain.proofs.accepting.put_others.Given as goal

abbrev pub invariant-loop-task : goal.invariant-loop-task
invariant-loop-task l = l.text ≡ l.initial.text ++ flat_map (apart_line l.stimulus l.first) (filter (names_stimulus l.stimulus) (take l.task-index l.tasks))
