use Rattle.std.proofs.Common.{◌≡◌, length, ap, ◌∙◌, arith}
use Rattle.cl_model.specs.{ByNumber.no_chain, Groups.{groups_at, groups_of}}
use Rattle.cl_model.proofs.{ListFacts.mapped_at, GroupFacts.{groups_at_few, groups_at_some}}
use Rattle.cl_model.proofs.valid_model.ValidModel.group_count.Goals as goal

pub overflow_cast-result : goal.overflow_cast-result
overflow_cast-result c =
    let kept = mapped_at (groups_of c.self.inside.model) c.self.inside.model.chains no_chain c.self.inside.look_ups.groups.items c.args.chain c.index.result.now c.self.invariant.look_ups.groups (rw (← c.self.view_is) at c.requires) c.index.ensures in
    let few = groups_at_few c.self.inside.model c.self.invariant.valid c.args.chain (rw (← c.self.view_is) at c.requires) in
    let count : c.len.result ≡ length (groups_at c.self.inside.model c.args.chain) = c.len.ensures ∙ ap length kept in
    omega (arith, few, count)

pub returns-clause-some : goal.returns-clause-some
returns-clause-some c =
    let some = groups_at_some c.self.inside.model c.self.invariant.valid c.args.chain (rw (← c.self.view_is) at c.requires) in
    let kept = mapped_at (groups_of c.self.inside.model) c.self.inside.model.chains no_chain c.self.inside.look_ups.groups.items c.args.chain c.index.result.now c.self.invariant.look_ups.groups (rw (← c.self.view_is) at c.requires) c.index.ensures in
    let count : c.len.result ≡ length (groups_at c.self.inside.model c.args.chain) = c.len.ensures ∙ ap length kept in
    omega (arith, some, count)
