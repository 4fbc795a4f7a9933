use Rattle.std.proofs.Common.{◌≡◌, length, get_or, take, sym, ap, ◌∙◌, arith}
use Rattle.std.specs.Prelude.{sum_by}
use Rattle.std.proofs.lemmas.List.{get_or_default}
use Rattle.std.proofs.lemmas.List.Concat.{length-flat_map}
use Rattle.cl_model.specs.{declared.task.TaskDef.TaskDef, ByNumber.{no_task, task_at}}
use Rattle.cl_model.proofs.DroppedTasks.{runnables_few}
use Rattle.cl_model.proofs.valid_model.tasks.runnables_of.Goals as goal

pub count_runnables-first-requires : goal.count_runnables-first-requires
count_runnables-first-requires c = rw c.as_slice-tasks.ensures (omega (arith, runnables_few c.args.model.now c.requires.valid c.args.task c.requires.task))

pub overflow_add-result : goal.overflow_add-result
overflow_add-result c =
    let model = c.args.model.now in
    let before : sum_by (λ (task : TaskDef). length task.runnables) (take c.args.task c.as_slice-tasks.result.now) ≡ sum_by (λ (task : TaskDef). length task.runnables) (take c.args.task c.args.model.now.tasks)
    = ap (λ tasks. sum_by (λ (task : TaskDef). length task.runnables) (take c.args.task tasks)) c.as_slice-tasks.ensures in
    let own : length (get_or c.as_slice-tasks.result.now c.args.task c.index-tasks-task.result).runnables ≡ length (task_at c.args.model.now c.args.task).runnables
    = ap (λ (task : TaskDef). length task.runnables)
    (ap (λ tasks. get_or tasks c.args.task c.index-tasks-task.result) c.as_slice-tasks.ensures ∙ get_or_default model.tasks c.args.task c.index-tasks-task.result no_task c.requires.task) in
    omega (arith, c.count_runnables-first.ensures, c.len.ensures, before, own, runnables_few c.args.model.now c.requires.valid c.args.task c.requires.task)

pub returns-clause-first : goal.returns-clause-first
returns-clause-first c =
    c.count_runnables-first.ensures ∙ ap (λ tasks. sum_by (λ (task : TaskDef). length task.runnables) (take c.args.task tasks)) c.as_slice-tasks.ensures
    ∙ sym (length-flat_map (λ (task : TaskDef). task.runnables) (take c.args.task c.args.model.now.tasks))
