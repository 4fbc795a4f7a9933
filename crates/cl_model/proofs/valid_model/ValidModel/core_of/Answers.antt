use Rattle.cl_model.specs.ByNumber.{no_task, core_number}
use Rattle.cl_model.proofs.{ListFacts.mapped_at, NamesKnown.core_within}
use Rattle.cl_model.proofs.valid_model.ValidModel.core_of.Goals as goal

pub returns-clause-core : goal.returns-clause-core
returns-clause-core c =
    rw (← c.self.view_is) (mapped_at (core_number c.self.inside.model) c.self.inside.model.tasks no_task c.self.inside.look_ups.tasks.cores.items c.args.task c.index.result.now
    c.self.invariant.look_ups.tasks.cores (rw (← c.self.view_is) at c.requires) c.index.ensures)

pub returns-clause-within : goal.returns-clause-within
returns-clause-within c =
    rw (returns-clause-core c, ← c.self.view_is) (core_within c.self.inside.model c.self.invariant.valid c.args.task (rw (← c.self.view_is) at c.requires))
