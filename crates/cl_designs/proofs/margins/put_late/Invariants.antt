use Rattle.std.proofs.Common.{◌≡◌, ◌++◌}
use Rattle.std.specs.List.{flat_map, range_with_len}
use Rattle.cl_designs.specs.Margins.{late_line}
use Rattle.cl_designs.proofs.margins.put_late.Given as goal

abbrev pub invariant-loop-task : goal.invariant-loop-task
invariant-loop-task l = l.text ≡ l.initial.text ++ flat_map (late_line l.model l.found) (range_with_len 0 l.task)
