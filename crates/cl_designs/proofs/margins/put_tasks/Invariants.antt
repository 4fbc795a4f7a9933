use Rattle.std.proofs.Common.{◌≡◌, ◌++◌}
use Rattle.std.specs.List.{flat_map, range_with_len}
use Rattle.cl_designs.specs.Margins.{task_margin_line}
use Rattle.cl_designs.proofs.margins.put_tasks.Given as goal

abbrev pub invariant-loop-task : goal.invariant-loop-task
invariant-loop-task l = l.text ≡ l.initial.text ++ flat_map (task_margin_line l.model l.margins) (range_with_len 0 l.task)
