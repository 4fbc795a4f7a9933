use Rattle.std.proofs.Common.{◌≡◌, ℕ, ◌<◌, length}
use Rattle.cl_model.specs.{Name.IsName, ByNumber.task_at}
use Rattle.cl_trace.specs.Inner.Bodies.{AreJobLists}
use Rattle.cl_trace.proofs.job_lines.table_after.Given as goal

abbrev pub invariant-loop-task : goal.invariant-loop-task
invariant-loop-task l =
    (length l.lists ≡ l.task) × AreJobLists l.model l.initial.left l.lists l.left × ((task : ℕ) → task < l.task → IsName (task_at l.model task).name)
