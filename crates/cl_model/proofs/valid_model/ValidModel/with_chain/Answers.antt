use Rattle.cl_model.proofs.{ChangedChains.{new_steps_known, chain_added}, StepFacts.table_paired}
use Rattle.cl_model.proofs.valid_model.ValidModel.with_chain.Goals as goal

pub add_chain-requires-clause-known : goal.add_chain-requires-clause-known
add_chain-requires-clause-known c =
    new_steps_known c.self.inside.model c.args.chain (rw (← c.self.view_is) at c.requires) c.self.inside.look_ups c.self.invariant.look_ups

pub add_chain-requires-clause-paired : goal.add_chain-requires-clause-paired
add_chain-requires-clause-paired c = table_paired c.self.inside.model.tasks c.self.inside.look_ups.steps c.self.invariant.look_ups.steps

pub invariant_of-result : goal.invariant_of-result
invariant_of-result c =
    rw c.in_ok-push.ensures.ok
    (chain_added c.self.inside.model c.args.chain (rw (← c.self.view_is) at c.requires) c.self.inside.look_ups c.add_chain.new.self c.self.invariant.look_ups c.in_ok-add_chain.ensures)
