use Rattle.std.proofs.Common.{◌≡◌, ℕ, ◌<◌, length, get_or}
use Rattle.cl_sched.specs.{CoreProgress.progress_at, Inner.Executing.IsUnbegun}
use Rattle.cl_sched.proofs.core_progress.all_unbegun.Given as goal

-- each task so far stands before its first job
abbrev pub invariant-loop-task : goal.invariant-loop-task
invariant-loop-task l = record {
  as_many : length l.tasks.items ≡ l.task-index;
  begun : (k : ℕ) → k < l.task-index → IsUnbegun l.model l.table (get_or l.task-items k 0) (progress_at l.tasks.items k);
}
