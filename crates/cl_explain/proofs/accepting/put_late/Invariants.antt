use Rattle.std.proofs.Common.{◌≡◌, ◌++◌, ◌+◌, ◌≤◌}
use Rattle.std.specs.List.{flat_map, range_with_len}
use Rattle.cl_explain.specs.Accepted.{late_task_line}
use Rattle.cl_explain.proofs.accepting.put_late.Given as goal

abbrev pub invariant-loop-task : goal.invariant-loop-task
invariant-loop-task g l = (l.text ≡ l.initial.text ++ flat_map (late_task_line l.model) (range_with_len 0 l.task)) × (l.steps ≤ l.initial.steps + l.task)
