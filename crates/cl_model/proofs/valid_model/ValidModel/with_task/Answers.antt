use Rattle.cl_model.proofs.{NamePlaces.found_somewhere, AddedTasks.{core_found, stimulus_found, in_range, names_new, core_kept, task_added}}
use Rattle.cl_model.proofs.valid_model.ValidModel.with_task.Goals as goal

pub add_task-requires-clause-in_range : goal.add_task-requires-clause-in_range
add_task-requires-clause-in_range c = in_range c.self.inside c.self.invariant c.args.task (rw (← c.self.view_is) at c.requires)

pub add_task-requires-clause-new : goal.add_task-requires-clause-new
add_task-requires-clause-new c = names_new c.self.inside c.self.invariant c.args.task (rw (← c.self.view_is) at c.requires)

pub add_task-requires-clause-core : goal.add_task-requires-clause-core
add_task-requires-clause-core c = core_kept c.self.inside c.self.invariant c.args.task (rw (← c.self.view_is) at c.requires) c.in-Some.core c.in-Some.ensures.number

-- its core and its stimulus are known
pub unreachable-requires : goal.unreachable-requires
unreachable-requires c =
    found_somewhere _ c.args.task.core _ _ c.number_of.ensures.found c.self.invariant.look_ups.names.cores (core_found c.self.inside c.self.invariant c.args.task (rw (← c.self.view_is) at c.requires)) c.in_default.is

pub unreachable-requires-in_default-number_of : goal.unreachable-requires-in_default-number_of
unreachable-requires-in_default-number_of c =
    stimulus_found c.self.inside c.self.invariant c.args.task (rw (← c.self.view_is) at c.requires) _ c.number_of-2.ensures.number c.in_default-number_of.is

pub invariant_of-result : goal.invariant_of-result
invariant_of-result c =
    rw c.in_ok-push.ensures.ok
    (task_added c.self.inside c.self.invariant c.args.task (rw (← c.self.view_is) at c.requires) c.in-Some.core c.in-Some-number_of.stimulus c.in-Some.ensures.number c.in-Some-number_of.ensures.number
    c.add_task.new.self c.in_ok-add_task.ensures)
