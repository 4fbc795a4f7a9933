use Rattle.std.proofs.Common.{◌≡◌, ◌++◌}
use Rattle.std.specs.List.{flat_map, range_with_len}
use Rattle.cl_verify.specs.{Decisions.task_decision_at, VerifyText.task_decision_line}
use Rattle.cl_verify.proofs.text.put_tasks.Given as goal

abbrev pub invariant-loop-task : goal.invariant-loop-task
invariant-loop-task l =
    l.text ≡ l.initial.text ++ flat_map (λ task. task_decision_line l.model (task_decision_at l.decisions task) task) (range_with_len 0 l.task)
