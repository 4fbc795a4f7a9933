-- The first runnable that writes a label, task by task.
use Rattle.std.proofs.Common.{◌≡◌, ℕ, ◌+◌, ◌<◌, Bool, List, length, get_or, drop, sym, ap, ◌∙◌}
use Rattle.std.specs.List.{find}
use Rattle.std.specs.Option.{option_or}
use Rattle.std.proofs.lemmas.List.{at_drop_more}
use Rattle.std.proofs.lemmas.List.Folds.{find-append}
use Rattle.cl_model.specs.{declared.task.{RunnableDef.RunnableDef, TaskDef.TaskDef}, Named.all_runnables}

-- it is one of the next task, or else one of those behind it
pub first_of_more : (test : RunnableDef → Bool) (tasks : List TaskDef) (i : ℕ) (task : TaskDef) → i < length tasks → task ≡ get_or tasks i task
    → find test (all_runnables (drop i tasks)) ≡ option_or (find test task.runnables) (find test (all_runnables (drop (i + 1) tasks)))
first_of_more test tasks i task lt is =
    at_drop_more (λ (left : List TaskDef). find test (all_runnables left)) tasks i task lt
    ∙ find-append test (get_or tasks i task).runnables (all_runnables (drop (i + 1) tasks))
    ∙ ap (λ (t : TaskDef). option_or (find test t.runnables) (find test (all_runnables (drop (i + 1) tasks)))) (sym is)
