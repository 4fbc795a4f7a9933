use Rattle.cl_model.proofs.{NamePlaces.found_somewhere, MovedTasks.{core_is_there, core_stands, task_stands, place_stands}}
use Rattle.cl_model.proofs.valid_model.ValidModel.with_place.Goals as goal

pub unreachable-requires : goal.unreachable-requires
unreachable-requires c =
    found_somewhere _ c.args.core.now _ _ c.number_of.ensures.found c.self.invariant.look_ups.names.cores
    (core_is_there c.self.inside c.self.invariant c.args.task (rw (← c.self.view_is) at c.requires.task) c.args.core.now c.args.priority (rw (← c.self.view_is) at c.requires.valid)) c.in_default.is

pub move_task-requires-clause-core : goal.move_task-requires-clause-core
move_task-requires-clause-core c =
    core_stands c.self.inside c.self.invariant c.args.task (rw (← c.self.view_is) at c.requires.task) c.args.core.now c.args.priority (rw (← c.self.view_is) at c.requires.valid) c.in-Some.number c.in-Some.ensures.number

pub move_task-requires-clause-listed : goal.move_task-requires-clause-listed
move_task-requires-clause-listed c =
    task_stands c.self.inside c.self.invariant c.args.task (rw (← c.self.view_is) at c.requires.task) c.args.core.now c.args.priority (rw (← c.self.view_is) at c.requires.valid) c.in-Some.number c.in-Some.ensures.number

pub invariant_of-result : goal.invariant_of-result
invariant_of-result c =
    rw c.set_place.ensures
    (place_stands c.self.inside c.self.invariant c.args.task (rw (← c.self.view_is) at c.requires.task) c.args.core.now c.args.priority (rw (← c.self.view_is) at c.requires.valid)
    c.in-Some.number c.in-Some.ensures.number c.move_task.new.self c.in_ok-move_task.ensures)
