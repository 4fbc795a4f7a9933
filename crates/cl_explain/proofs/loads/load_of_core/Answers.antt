use Rattle.std.proofs.Common.{◌≡◌, ℕ, List, length, take, take_all, ap, ◌∙◌, arith}
use Rattle.std.specs.List.{sum_by}
use Rattle.cl_model.proofs.CoreTasks.{few_tasks}
use Rattle.cl_explain.proofs.LoadsByNumber.{load_by_number, core_is}
use Rattle.cl_explain.proofs.loads.load_of_core.Goals as goal

pub overflow_add-load : goal.overflow_add-load
overflow_add-load c = omega (
  arith,
  c.loop-task-test.true,
  ap (λ (tasks : List ℕ). length tasks) c.tasks_of_core-task-items.ensures.tasks,
  few_tasks c.args.model.now c.requires.valid c.args.core,
  c.load_of_task-load.ensures.small,
  c.loop-task.invariant.small,
)

pub returns : goal.returns
returns c =
    let items = c.tasks_of_core-task-items.result.now in
    let all : take c.loop-task.task-index items ≡ items = take_all c.loop-task.task-index items (omega (arith, c.loop-task-test.false)) in
    c.loop-task.invariant.load ∙ ap (sum_by (load_by_number c.args.model.now c.args.up)) (all ∙ c.tasks_of_core-task-items.ensures.tasks) ∙ core_is c.args.model.now c.args.up c.args.core
