use Rattle.std.proofs.Common.{length, ap, ◌∙◌, arith}
use Rattle.std.proofs.lemmas.List.FromFn.{length-map-range_with_len}
use Rattle.cl_model.specs.ByNumber.{tasks_of_core}
use Rattle.cl_model.proofs.CoreTasks.{tasks_kept, below_known}
use Rattle.cl_model.proofs.valid_model.ValidModel.tasks_of_core.Goals as goal

pub index-requires : goal.index-requires
index-requires c =
    omega (arith, rw (← c.self.view_is) at c.requires, ap length c.self.invariant.look_ups.tasks.on_cores, length-map-range_with_len (tasks_of_core c.self.inside.model) 0 (length c.self.inside.model.cores))

pub returns-clause-tasks : goal.returns-clause-tasks
returns-clause-tasks c =
    rw (← c.self.view_is) (c.as_slice.ensures ∙ tasks_kept c.self.inside.model c.self.inside.look_ups.tasks.on_cores.items (length c.self.inside.model.cores) c.args.core c.index.result.now c.self.invariant.look_ups.tasks.on_cores (rw (← c.self.view_is) at c.requires) c.index.ensures)

pub returns-clause-within : goal.returns-clause-within
returns-clause-within c = rw (returns-clause-tasks c) (below_known c.args.self.now (length c.args.self.now.tasks) c.args.core)
