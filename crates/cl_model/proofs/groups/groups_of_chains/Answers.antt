use Rattle.cl_model.proofs.{StepFacts.table_paired, GroupFacts.{steps_known_at, groups_more}}
use Rattle.cl_model.proofs.groups.groups_of_chains.Goals as goal

pub groups_of_chain-requires-clause-known : goal.groups_of_chain-requires-clause-known
groups_of_chain-requires-clause-known c =
    steps_known_at c.args.model.now c.requires.valid c.args.table.now c.requires.table _ c.loop-chain.chain-index c.chain-item.result c.as_slice-chain-items.ensures c.loop-chain-test.true c.chain-item.is

pub groups_of_chain-requires-clause-paired : goal.groups_of_chain-requires-clause-paired
groups_of_chain-requires-clause-paired c = table_paired c.args.model.now.tasks c.args.table.now c.requires.table

pub loop-chain-preserved : goal.loop-chain-preserved
loop-chain-preserved c =
    groups_more c.args.model.now c.requires.valid c.args.table.now c.requires.table _ c.loop-chain.chain-index c.chain-item.result
    c.in_ok-groups_of_chain.field-0 c.loop-chain.all.items c.push.new.self.items c.as_slice-chain-items.ensures c.loop-chain-test.true c.chain-item.is
    c.in_ok-groups_of_chain.ensures c.loop-chain.invariant c.in_ok-push.ensures.items
