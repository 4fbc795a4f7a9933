use Rattle.std.proofs.Common.{◌≡◌, ◌++◌}
use Rattle.std.specs.List.{flat_map, range_with_len}
use Rattle.cl_bound.specs.Answers.{answer_at}
use Rattle.cl_report.specs.Report.{task_line}
use Rattle.cl_report.proofs.lines.put_tasks.Given as goal

abbrev pub invariant-loop-task : goal.invariant-loop-task
invariant-loop-task l = l.text ≡ l.initial.text ++ flat_map (λ task. task_line l.model (answer_at l.tasks task) task) (range_with_len 0 l.task)
