use Rattle.std.proofs.Common.{◌≡◌, ◌++◌}
use Rattle.std.specs.List.{flat_map, range_with_len}
use Rattle.cl_explain.specs.Accepted.{time_lines_of}
use Rattle.cl_explain.proofs.times.put_times.Given as goal

abbrev pub invariant-loop-task : goal.invariant-loop-task
invariant-loop-task l = l.text ≡ l.initial.text ++ flat_map (time_lines_of l.model) (range_with_len 0 l.task)
