use Rattle.std.proofs.Common.{◌∙◌}
use Rattle.cl_model.specs.{ByNumber.no_chain, Groups.groups_of}
use Rattle.cl_model.proofs.{ListFacts.mapped_at, GroupFacts.{groups_at_are, groups_at_few, groups_at_some}}
use Rattle.cl_model.proofs.valid_model.ValidModel.groups.Goals as goal

pub returns-clause-groups : goal.returns-clause-groups
returns-clause-groups c =
    let is_chain = rw (← c.self.view_is) at c.requires in
    rw (← c.self.view_is) (c.as_slice.ensures ∙ mapped_at (groups_of c.self.inside.model) c.self.inside.model.chains no_chain
    c.self.inside.look_ups.groups.items c.args.chain c.index.result.now c.self.invariant.look_ups.groups is_chain c.index.ensures)

pub returns-clause-some : goal.returns-clause-some
returns-clause-some c =
    rw (returns-clause-groups c, ← c.self.view_is)
    (groups_at_some c.self.inside.model c.self.invariant.valid c.args.chain (rw (← c.self.view_is) at c.requires))

pub returns-clause-few : goal.returns-clause-few
returns-clause-few c =
    rw (returns-clause-groups c, ← c.self.view_is)
    (groups_at_few c.self.inside.model c.self.invariant.valid c.args.chain (rw (← c.self.view_is) at c.requires))

pub returns-clause-of_tasks : goal.returns-clause-of_tasks
returns-clause-of_tasks c =
    rw (returns-clause-groups c, ← c.self.view_is) (groups_at_are c.self.inside.model c.self.invariant.valid c.args.chain)
