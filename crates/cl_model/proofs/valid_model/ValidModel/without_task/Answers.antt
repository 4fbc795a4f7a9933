use Rattle.cl_model.proofs.DroppedTasks.{its_row, its_steps, task_dropped}
use Rattle.cl_model.proofs.valid_model.ValidModel.without_task.Goals as goal

pub drop_task-requires-clause-row : goal.drop_task-requires-clause-row
drop_task-requires-clause-row c = its_row c.self.inside c.self.invariant c.args.task (rw (← c.self.view_is) at c.requires.task)

pub drop_task-requires-clause-steps : goal.drop_task-requires-clause-steps
drop_task-requires-clause-steps c =
    its_steps c.self.inside c.self.invariant c.args.task (rw (← c.self.view_is) at c.requires.task) _ _ c.runnables_of-first.ensures.first c.runnables_of-first.ensures.last

pub invariant_of-result : goal.invariant_of-result
invariant_of-result c =
    rw c.drop_task-2.ensures
    (task_dropped c.self.inside c.self.invariant c.args.task (rw (← c.self.view_is) at c.requires.task) _ _ c.runnables_of-first.ensures.first c.runnables_of-first.ensures.last
    (rw (← c.self.view_is) at c.requires.valid) c.drop_task.new.self c.drop_task.ensures)
