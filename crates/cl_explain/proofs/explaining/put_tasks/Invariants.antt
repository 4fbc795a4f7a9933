use Rattle.std.proofs.Common.{◌≡◌, ◌++◌}
use Rattle.std.specs.List.{flat_map, range_with_len}
use Rattle.cl_runs.specs.SystemOf.{system_of}
use Rattle.cl_bound.specs.Answers.{answers_of}
use Rattle.cl_explain.specs.Explanation.{task_lines_of}
use Rattle.cl_explain.proofs.AnswersByNumber.{answers_below}
use Rattle.cl_explain.proofs.explaining.put_tasks.Given as goal

abbrev pub invariant-loop-task : goal.invariant-loop-task
invariant-loop-task l = (l.answers ≡ answers_below (answers_of (system_of l.model)) l.task)
    × (l.text ≡ l.initial.text ++ flat_map (task_lines_of l.model) (range_with_len 0 l.task))
