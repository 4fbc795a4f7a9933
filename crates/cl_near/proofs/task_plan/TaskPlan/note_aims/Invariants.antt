use Rattle.std.proofs.Common.{◌≡◌}
use Rattle.cl_near.proofs.task_plan.TaskPlan.note_aims.Given as goal

abbrev pub invariant-loop-task : goal.invariant-loop-task
invariant-loop-task l = record { task : l.self.task ≡ l.initial.self.task; cores : l.self.cores ≡ l.initial.self.cores }
