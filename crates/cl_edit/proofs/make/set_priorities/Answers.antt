use Rattle.std.proofs.Common.{◌<◌, List, length, sym, subst}
use Rattle.std.specs.Prelude.{All}
use Rattle.cl_model.specs.{declared.changes.TaskPriority.TaskPriority, Changes.with_priorities, Validity.IsValid}
use Rattle.cl_edit.proofs.make.set_priorities.Goals as goal

-- the tasks that get priorities are there
pub with_priorities-requires-clause-tasks : goal.with_priorities-requires-clause-tasks
with_priorities-requires-clause-tasks c =
    let model = c.args.model in
    subst (λ (priorities : List TaskPriority). All (λ (it : TaskPriority). it.task < length model.tasks) priorities) (sym c.as_slice.ensures)
    (λ k d lt. (c.requires.of_model k d lt).task)

pub with_priorities-requires-clause-valid : goal.with_priorities-requires-clause-valid
with_priorities-requires-clause-valid c =
    let model = c.args.model in
    subst (λ (priorities : List TaskPriority). IsValid (with_priorities model priorities)) (sym c.as_slice.ensures) c.requires.valid
