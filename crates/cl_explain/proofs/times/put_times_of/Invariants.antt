use Rattle.std.proofs.Common.{◌≡◌, ◌++◌, take}
use Rattle.std.specs.List.{flat_map}
use Rattle.cl_explain.specs.Accepted.{time_line}
use Rattle.cl_explain.proofs.times.put_times_of.Given as goal

abbrev pub invariant-loop-runnable : goal.invariant-loop-runnable
invariant-loop-runnable l = l.text ≡ l.initial.text ++ flat_map (time_line l.distance) (take l.runnable-index l.runnable-items)
