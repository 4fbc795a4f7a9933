use Rattle.cl_model.specs.{ByNumber.no_chain, Groups.{no_group, groups_of}}
use Rattle.cl_model.proofs.{ListFacts.mapped_at, GroupFacts.groups_at_are}
use Rattle.cl_model.proofs.valid_model.ValidModel.group.Goals as goal

pub returns-clause-of_task : goal.returns-clause-of_task
unfolding no_group
returns-clause-of_task c =
    let chain = rw (← c.self.view_is) at c.requires.chain in
    let kept = mapped_at (groups_of c.self.inside.model) c.self.inside.model.chains no_chain c.self.inside.look_ups.groups.items c.args.chain c.index.result.now c.self.invariant.look_ups.groups chain c.index.ensures in
    rw (← c.self.view_is, c.as_slice.ensures, kept) (groups_at_are c.self.inside.model c.self.invariant.valid c.args.chain c.args.place no_group (rw (← c.self.view_is) at c.requires.place))
