use Rattle.cl_model.proofs.ChangedChains.{chain_kept, chain_dropped}
use Rattle.cl_model.proofs.valid_model.ValidModel.without_chain.Goals as goal

pub drop_chain-requires : goal.drop_chain-requires
drop_chain-requires c = chain_kept c.self.inside.model c.self.inside.look_ups c.self.invariant.look_ups c.args.chain (rw (← c.self.view_is) at c.requires.chain)

pub invariant_of-result : goal.invariant_of-result
invariant_of-result c =
    rw c.drop_chain-2.ensures
    (chain_dropped c.self.inside.model c.args.chain (rw (← c.self.view_is) at c.requires.valid) c.self.inside.look_ups c.drop_chain.new.self c.self.invariant.look_ups c.drop_chain.ensures)
